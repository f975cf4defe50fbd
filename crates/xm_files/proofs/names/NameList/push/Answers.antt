use Rattle.std.proofs.Common.{rules, ◌≡◌, ℕ, List, [], ◌∷◌, ◌++◌, length, map, false, Some, string_bytes, sym, subst, ap, ◌∙◌}
use Rattle.std.proofs.lemmas.List.{map-append}
use Rattle.std.specs.BTreeMap.{UpdatesBy}
use Rattle.std.specs.List.{All}
use Rattle.std.specs.String.{string_cmp}
use Rattle.xm_files.proofs.Distinct.{distinct-push}
use Rattle.xm_files.proofs.Places.{places-push}
use Rattle.xm_files.specs.Hints.{LeadsInto}
use Rattle.xm_files.specs.Names.{is_among}
use Rattle.xm_files.proofs.names.NameList.push.Goals as goal

pub returns-clause-added : goal.returns-clause-added
returns-clause-added c =
    let old = map string_bytes c.self.inside.names.items in
    let items : c.push_reserved.new.self.items ≡ c.self.inside.names.items ++ c.in_ok-listed.listed ∷ [] = search rules in
    rw (← c.self.view_is) (ap (map string_bytes) items ∙ map-append string_bytes c.self.inside.names.items (c.in_ok-listed.listed ∷ []) ∙ ap (λ (name : List ℕ). old ++ name ∷ []) c.in_ok-listed.ensures.ok)

pub invariant_of-self-2 : goal.invariant_of-self-2
invariant_of-self-2 c =
    let old = map string_bytes c.self.inside.names.items in
    let items : c.push_reserved.new.self.items ≡ c.self.inside.names.items ++ c.in_ok-listed.listed ∷ [] = search rules in
    let names : map string_bytes c.push_reserved.new.self.items ≡ old ++ c.args.name.now ∷ [] =
    ap (map string_bytes) items ∙ map-append string_bytes c.self.inside.names.items (c.in_ok-listed.listed ∷ []) ∙ ap (λ (name : List ℕ). old ++ name ∷ []) c.in_ok-listed.ensures.ok in
    let fresh : is_among c.args.name.now old ≡ false = rw c.self.view_is c.requires in
    let index : c.len-index.result ≡ length old = c.len-index.ensures.len ∙ ap length (sym c.self.view_is) in
    record {
      few = search rules;
      distinct = rw names (distinct-push old c.args.name.now c.self.invariant.distinct fresh);
      places = rw names (places-push old c.args.name.now fresh c.self.inside.places c.insert.new.self c.in_ok-placed.placed c.in_ok-placed.ensures.ok c.self.invariant.places
          (subst (λ (index : ℕ). UpdatesBy string_cmp (string_cmp c.in_ok-placed.placed) c.self.inside.places c.insert.new.self (Some index)) index c.in_ok-insert.ensures.updates));
      hints = rw names
          (subst (λ (bytes : List ℕ). All (LeadsInto (old ++ bytes ∷ [])) c.add_hint.new.hints) c.as_bytes-bytes.ensures.value (c.add_hint.ensures old (search rules) c.self.invariant.hints));
    }
