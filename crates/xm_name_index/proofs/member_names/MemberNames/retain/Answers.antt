use Rattle.std.proofs.Common.{rules, ℕ, nat_eq, sym, ◌∙◌, arith}
use Rattle.std.specs.Map.{lookup}
use Rattle.xm_name_index.specs.Names.{Retains}
use Rattle.xm_name_index.specs.Tables.{table_key}
use Rattle.xm_name_index.proofs.Joined.{retains-first, still-none, was-some}
use Rattle.xm_name_index.proofs.Retained.{retained}
use Rattle.xm_name_index.proofs.member_names.MemberNames.retain.Goals as goal

pub returns-clause-keys : goal.returns-clause-keys
returns-clause-keys g c r =
    let n = c.self.inside in
    let A = goal.F-post g c.args.passes.now in
    let later : Retains A (lookup (nat_eq r) n.rest.entries) (lookup (nat_eq r) c.retain-2.new.self.entries) =
    retained A _ _ (λ k v b w f call. search rules) r _ _ c.len.ensures.unique c.retain-2.ensures.filtered in
    rw (← c.self.view_is)
    (retains-first A (table_key n.table r) (table_key c.retain.new.self r) (lookup (nat_eq r) n.rest.entries) (lookup (nat_eq r) c.retain-2.new.self.entries) (c.retain.ensures.keys r) later (c.self.invariant.apart r))

pub invariant_of-self-2 : goal.invariant_of-self-2
invariant_of-self-2 g c =
    let n = c.self.inside in
    let A = goal.F-post g c.args.passes.now in
    let later : (r : ℕ) → Retains A (lookup (nat_eq r) n.rest.entries) (lookup (nat_eq r) c.retain-2.new.self.entries) =
    λ r. retained A _ _ (λ k v b w f call. search rules) r _ _ c.len.ensures.unique c.retain-2.ensures.filtered in
    record {
      reserved = c.self.invariant.reserved;
      ready = omega (arith, c.self.invariant.ready, c.retain-2.ensures.room.0);
      seed = c.retain-2.ensures.room.1 ∙ c.self.invariant.seed ∙ sym c.retain.ensures.seed;
      apart = λ r some. still-none A (lookup (nat_eq r) n.rest.entries) (lookup (nat_eq r) c.retain-2.new.self.entries) (c.self.invariant.apart r (was-some A (table_key n.table r) (table_key c.retain.new.self r) (c.retain.ensures.keys r) some)) (later r);
    }
