-- Two queues that share a key are the same queue.
use Rattle.std.proofs.Common.{◌≡◌, ◌≢◌, ℕ, List, [], ◌∷◌, length, Contains, Option, Some, None, sym, ap, ◌∙◌, subst, inl, inr}
use Rattle.std.proofs.lemmas.Option.{none-some}
use Rattle.xm_queues.proofs.Changes.{round, prev_member}
use Rattle.xm_queues.proofs.Keys.{Contains-none, Contains-cases, cut_at}
use Rattle.xm_queues.proofs.Segments.{last_of}
use Rattle.xm_queues.proofs.Walks.{keys_of-is}
use Rattle.xm_queues.specs.Keys.{AreApart}
use Rattle.xm_queues.specs.Queue.{link_at, IsSegment, IsQueue, keys_from, keys_of}
use Rattle.xm_queues.specs.declared.queues.Ends.{Ends}
use Rattle.xm_queues.specs.declared.links.Link.{Link}

-- the first key of a segment, one of whose keys is in a queue, is in that queue
first_shared : (links : List Link) (ends : Ends) (keys : List ℕ) → IsQueue links ends keys → (before after : Option ℕ) (k : ℕ) (ks : List ℕ) (first last : Option ℕ) (j : ℕ) → IsSegment links before after (k ∷ ks) first last → Contains (k ∷ ks) j → Contains keys j → Contains keys k
unfolding IsSegment
first_shared links ends keys q before after k [] first last j s at there =
    elim (Contains-cases k [] j at) [
      | inl same ↦ subst (Contains keys) (sym same) there
      | inr none ↦ absurd (Contains-none j none)
    ]
first_shared links ends keys q before after k (n ∷ ns) first last j s at there =
    elim (Contains-cases k (n ∷ ns) j at) [
      | inl same ↦ subst (Contains keys) (sym same) there
      | inr later ↦
          prev_member links ends n keys k q (first_shared links ends keys q (Some k) after n ns _ last j s.3 later there) s.3.2
    ]

nothing_ahead : (links : List Link) (after : Option ℕ) (ahead : List ℕ) (first back : Option ℕ) → IsSegment links None after ahead first back → back ≡ None → first ≡ after
unfolding IsSegment
nothing_ahead links after [] first back s none = s.0
nothing_ahead links after (k ∷ ks) first back s none =
    let found = last_of links None after k ks first back s in
    absurd (none-some found.key (sym none ∙ found.is))

-- a key with none before it is the first of its queue
first_from_none : (links : List Link) (ends : Ends) (keys : List ℕ) (k : ℕ) → IsQueue links ends keys → Contains keys k → (link_at links k).prev ≡ None → ends.first ≡ Some k
first_from_none links ends keys k q at none =
    let cut = cut_at keys k at in
    let r = round links ends k cut.ahead cut.behind (subst (IsQueue links ends) cut.is q) in
    nothing_ahead links (Some k) cut.ahead _ _ r.front none

firsts_same : (links : List Link) (ends : Ends) (keys : List ℕ) → IsQueue links ends keys → (ks : List ℕ) (first last : Option ℕ) (j : ℕ) → IsSegment links None None ks first last → Contains ks j → Contains keys j → ends.first ≡ first
unfolding IsSegment
firsts_same links ends keys q [] first last j s at there = absurd (Contains-none j at)
firsts_same links ends keys q (k ∷ ks) first last j s at there =
    first_from_none links ends keys k q (first_shared links ends keys q None None k ks first last j s at there) s.2
    ∙ sym s.0

pub shared_key : (links : List Link) (ends ends' : Ends) (keys keys' : List ℕ) (key : ℕ) → IsQueue links ends keys → IsQueue links ends' keys' → Contains keys key → Contains keys' key → keys ≡ keys'
unfolding keys_of
shared_key links ends ends' keys keys' key q q' at at' =
    sym (keys_of-is links ends keys q)
    ∙ ap (keys_from links (length links)) (firsts_same links ends keys q keys' _ _ key q'.linked at' at)
    ∙ keys_of-is links ends' keys' q'

-- two queues with different keys share none
pub apart_from_different : (links : List Link) (ends ends' : Ends) (keys keys' : List ℕ) → IsQueue links ends keys → IsQueue links ends' keys' → keys ≢ keys' → AreApart keys keys'
apart_from_different links ends ends' keys keys' q q' differ key at at' =
    differ (shared_key links ends ends' keys keys' key q q' at at')
