use Rattle.std.proofs.Common.{ℕ, ◌+◌, get_or, arith, ap, ◌≡◌, ◌<◌, ◌∙◌, ◌++◌, ◌∷◌, [], List, Bor, length, map, take, refl, subst}
use Rattle.std.specs.Fn.{FnReturnsAt}
use Rattle.std.specs.List.{AllZip}
use Rattle.xm_program.specs.Inputs.{IsOpened}
use Rattle.std.proofs.lemmas.List.{length-append, map-append, take_all, take_more}
use Rattle.xm_program.proofs.inputs.open_inputs.Goals as goal

-- one more at the end of both
one-more : {X Y : Type 0} (R : X → Y → Type 0) (xs : List X) (ys : List Y) (x : X) (y : Y) → AllZip R xs ys → R x y → AllZip R (xs ++ x ∷ []) (ys ++ y ∷ [])
one-more R [] [] x y all is = (is, tt)
one-more R [] (b ∷ ys) x y all is = absurd all
one-more R (a ∷ xs) [] x y all is = absurd all
one-more R (a ∷ xs) (b ∷ ys) x y all is = (all.0, one-more R xs ys x y all.1 is)

paths-more : (paths : List (Bor (List ℕ))) (i : ℕ) (d : Bor (List ℕ)) → i < length paths
    → map (λ s. s.now) (take (i + 1) paths) ≡ map (λ s. s.now) (take i paths) ++ (get_or paths i d).now ∷ []
paths-more paths i d within = ap (map (λ s. s.now)) (take_more paths i d within) ∙ map-append (λ s. s.now) (take i paths) (get_or paths i d ∷ [])

pub loop-path-preserved : goal.loop-path-preserved
loop-path-preserved g c =
    let items = c.in_ok-push.ensures.items in
    let size = ap length items ∙ length-append c.loop-path.inputs.items (c.input_of.result ∷ []) in
    let within : c.loop-path.path-index < length c.as_slice-path-items.result.now = omega arith in
    record {
      sized = omega (arith, size, c.loop-path.invariant.sized);
      few = c.loop-path.invariant.few;
      so_far = rw (paths-more c.as_slice-path-items.result.now c.loop-path.path-index (record { ref_ptr = (0, 0); now = [] }) within, items)
          (one-more _ _ _ _ _ c.loop-path.invariant.so_far (c.opens.result, record { shown = _; shows = refl; says = record { met = c.opens.ensures } }, c.input_of.ensures));
    }

pub returns-clause-opened : goal.returns-clause-opened
returns-clause-opened g c =
    let paths = c.as_slice-path-items.result.now in
    let all : take c.loop-path.path-index paths ≡ paths = take_all c.loop-path.path-index paths (omega arith) in
    subst (λ (xs : List (Bor (List ℕ))). AllZip (IsOpened (FnReturnsAt g.O.Fn c.args.opens.now)) (map (λ s. s.now) xs) c.loop-path.inputs.items) (all ∙ c.as_slice-path-items.ensures.value) c.loop-path.invariant.so_far
