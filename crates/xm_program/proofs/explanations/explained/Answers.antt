use Rattle.xm_program.proofs.explanations.explained.Goals as goal

pub returns : goal.returns
returns c = record {
  explanation = c.in_ok-explanation.explanation;
  is_explained = c.in_ok-explanation.ensures;
  are_lines = c.in_ok-text.ensures;
  comes_to = c.explained.ensures;
}
