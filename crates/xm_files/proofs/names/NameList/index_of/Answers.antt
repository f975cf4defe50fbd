use Rattle.std.proofs.Common.{sym, ◌∙◌}
use Rattle.std.specs.Str.{bytes_eq}
use Rattle.xm_files.proofs.Distinct.{place-of}
use Rattle.xm_files.proofs.NameFacts.{position-None}
use Rattle.xm_files.proofs.names.NameList.index_of.Goals as goal

pub returns-in-Some : goal.returns-in-Some
returns-in-Some c =
    rw (← c.self.view_is)
    (sym (place-of _ c.in-Some.index c.args.bytes.now c.self.invariant.distinct (c.in-Some.ensures _ c.self.invariant.hints)))

pub returns-in-None : goal.returns-in-None
returns-in-None c = c.len.ensures.len ∙ position-None (bytes_eq c.args.bytes.now) c.args.self.now c.in-None.ensures
