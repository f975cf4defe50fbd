-- What the changes of the links make of the queues.
use Rattle.std.proofs.Common.{◌≡◌, ℕ, ◌<◌, ◌≤◌, List, [], ◌∷◌, ◌++◌, length, Contains, Option, Some, None, refl, sym, ap, ◌∙◌, subst, arith, length-set, get_or-set_same, get_or-set_other}
use Rattle.std.proofs.lemmas.List.Elements.{Contains-append_left, Contains-append_right}
use Rattle.xm_queues.proofs.Keys.{Contains-there, AreDistinct-push, cut_at, Parts, parts_of, without_cut}
use Rattle.xm_queues.proofs.Segments.{length-with_next, length-with_prev, other_next, other_prev, segment_kept, segment_within, last_member, first_member, segment_to, segment_from, halves, together}
use Rattle.xm_queues.specs.Keys.{AreApart, without}
use Rattle.xm_queues.specs.Queue.{no_link, link_at, with_link, with_next, with_prev, end_after, IsSegment, IsQueue}
use Rattle.xm_queues.specs.declared.queues.Ends.{Ends}
use Rattle.xm_queues.specs.declared.links.Link.{Link}

-- a queue reads the links of its keys alone
pub queue_kept : (links links' : List Link) (ends : Ends) (keys : List ℕ) → length links ≤ length links' → ((k : ℕ) → Contains keys k → k < length links → link_at links' k ≡ link_at links k) → IsQueue links ends keys → IsQueue links' ends keys
queue_kept links links' ends keys longer same q =
    record { linked = segment_kept links links' None None keys _ _ longer same q.linked; distinct = q.distinct }

-- each key of a queue has room
pub key_within : (links : List Link) (ends : Ends) (keys : List ℕ) (k : ℕ) → IsQueue links ends keys → Contains keys k → k < length links
key_within links ends keys k q at = segment_within links None None keys _ _ k q.linked at

-- ---- a push

module _ (links : List Link) (ends : Ends) (keys : List ℕ) (key : ℕ) (q : IsQueue links ends keys) (within : key < length links) where
  -- the links after the push of the key
  abbrev pushed : List Link
  pushed = with_link (with_next links ends.last (Some key)) key (record { prev = ends.last; next = None })

  length-pushed : length pushed ≡ length links
  length-pushed = length-set _ key _ ∙ length-with_next links ends.last (Some key)

  pub push_last : ¬ Contains keys key → IsQueue pushed (record { first = end_after ends.first ends.last (Some key); last = Some key }) (keys ++ key ∷ [])
  unfolding IsSegment
  push_last absent =
      let led : List Link = with_next links ends.last (Some key) in
      let led_length : length led ≡ length links = length-with_next links ends.last (Some key) in
      let here : link_at pushed key ≡ record { prev = ends.last; next = None } = get_or-set_same led key _ no_link (omega arith) in
      let room : key < length pushed = rw length-pushed within in
      let longer : length led ≤ length pushed = rw (length-pushed, led_length) (omega arith) in
      record {
        linked = together pushed None (Some key) ends.last None keys (key ∷ []) _ _
            (segment_kept led pushed None (Some key) keys _ _ longer
            (λ k at in_room. get_or-set_other led key k _ no_link (λ same. absent (subst (Contains keys) same at)))
            (segment_to links None keys ends.first ends.last (Some key) q.distinct q.linked))
            (refl, room, ap (λ (l : Link). l.prev) here, (ap (λ (l : Link). l.next) here, refl));
        distinct = AreDistinct-push keys key q.distinct absent;
      }

  pub push_others : (other : Ends) (keys' : List ℕ) → IsQueue links other keys' → AreApart keys keys' → ¬ Contains keys' key → IsQueue pushed other keys'
  push_others other keys' q' apart absent =
      queue_kept links pushed other keys' (rw length-pushed (omega arith))
      (λ k at in_room.
      get_or-set_other _ key k _ no_link (λ same. absent (subst (Contains keys') same at))
      ∙ other_next links ends.last (Some key) k (λ is. apart k (last_member links None keys _ _ k q.linked is) at))
      q'

-- ---- an unlink

module _ (links : List Link) (ends : Ends) (key : ℕ) where
  -- the links without the key
  abbrev unlinked : List Link
  unlinked = with_prev (with_next links (link_at links key).prev (link_at links key).next) (link_at links key).next (link_at links key).prev

  abbrev left_ends : Ends
  left_ends = record {
    first = end_after ends.first (link_at links key).prev (link_at links key).next;
    last = end_after ends.last (link_at links key).next (link_at links key).prev;
  }

  length-unlinked : length unlinked ≡ length links
  length-unlinked = length-with_prev (with_next links (link_at links key).prev (link_at links key).next) _ _ ∙ length-with_next links _ _

  -- what stands round the key
  pub record Round (ahead behind : List ℕ) : Type 0 where
    pub parts : Parts ahead key behind
    pub front : IsSegment links None (Some key) ahead ends.first (link_at links key).prev
    pub back : IsSegment links (Some key) None behind (link_at links key).next ends.last

  pub round : (ahead behind : List ℕ) → IsQueue links ends (ahead ++ key ∷ behind) → Round ahead behind
  unfolding IsSegment
  round ahead behind q =
      let h = halves links None None ahead (key ∷ behind) _ _ q.linked in
      record {
        parts = parts_of ahead key behind q.distinct;
        front = subst (λ m. IsSegment links None m ahead ends.first (link_at links key).prev) h.behind.0
            (subst (λ b. IsSegment links None h.middle ahead ends.first b) (sym h.behind.2) h.ahead);
        back = h.behind.3;
      }

  unlink_cut : (ahead behind : List ℕ) → IsQueue links ends (ahead ++ key ∷ behind) → IsQueue unlinked left_ends (ahead ++ behind)
  unlink_cut ahead behind q =
      let r = round ahead behind q in
      let prev : Option ℕ = (link_at links key).prev in
      let next : Option ℕ = (link_at links key).next in
      let led : List Link = with_next links prev next in
      let led_length : length led ≡ length links = length-with_next links prev next in
      let all_length : length unlinked ≡ length led = length-with_prev led next prev in
      let front : IsSegment unlinked None next ahead left_ends.first prev =
      segment_kept led unlinked None next ahead _ _ (rw all_length (omega arith))
      (λ k at in_room. other_prev led next prev k (λ is. r.parts.apart k at (first_member links _ behind _ _ k r.back is)))
      (segment_to links (Some key) ahead ends.first prev next r.parts.ahead_distinct r.front) in
      let back : IsSegment unlinked prev None behind next left_ends.last =
      segment_from led (Some key) behind next ends.last prev r.parts.behind_distinct
      (segment_kept links led (Some key) None behind _ _ (rw led_length (omega arith))
      (λ k at in_room. other_next links prev next k (λ is. r.parts.apart k (last_member links _ ahead _ _ k r.front is) at))
      r.back) in
      record { linked = together unlinked None next prev None ahead behind _ _ front back; distinct = r.parts.left }

  pub unlink_left : (keys : List ℕ) → IsQueue links ends keys → Contains keys key → IsQueue unlinked left_ends (without key keys)
  unlink_left keys q at =
      let cut = cut_at keys key at in
      let q' : IsQueue links ends (cut.ahead ++ key ∷ cut.behind) = subst (IsQueue links ends) cut.is q in
      let parts = parts_of cut.ahead key cut.behind q'.distinct in
      subst (IsQueue unlinked left_ends)
      (sym (ap (without key) cut.is ∙ without_cut cut.ahead key cut.behind parts.not_ahead parts.not_behind))
      (unlink_cut cut.ahead cut.behind q')

  -- the neighbours of the key are in its queue
  pub prev_member : (keys : List ℕ) (k : ℕ) → IsQueue links ends keys → Contains keys key → (link_at links key).prev ≡ Some k → Contains keys k
  prev_member keys k q at is =
      let cut = cut_at keys key at in
      let r = round cut.ahead cut.behind (subst (IsQueue links ends) cut.is q) in
      subst (λ ks. Contains ks k) (sym cut.is)
      (Contains-append_left cut.ahead (key ∷ cut.behind) k (last_member links _ cut.ahead _ _ k r.front is))

  pub next_member : (keys : List ℕ) (k : ℕ) → IsQueue links ends keys → Contains keys key → (link_at links key).next ≡ Some k → Contains keys k
  next_member keys k q at is =
      let cut = cut_at keys key at in
      let r = round cut.ahead cut.behind (subst (IsQueue links ends) cut.is q) in
      subst (λ ks. Contains ks k) (sym cut.is)
      (Contains-append_right cut.ahead (key ∷ cut.behind) k (Contains-there key cut.behind k (first_member links _ cut.behind _ _ k r.back is)))

  pub unlink_others : (other : Ends) (keys keys' : List ℕ) → IsQueue links ends keys → Contains keys key → IsQueue links other keys' → AreApart keys keys' → IsQueue unlinked other keys'
  unlink_others other keys keys' q at q' apart =
      let prev : Option ℕ = (link_at links key).prev in
      let next : Option ℕ = (link_at links key).next in
      queue_kept links unlinked other keys' (rw length-unlinked (omega arith))
      (λ k there in_room.
      other_prev (with_next links prev next) next prev k (λ is. apart k (next_member keys k q at is) there)
      ∙ other_next links prev next k (λ is. apart k (prev_member keys k q at is) there))
      q'

-- the key behind a key
pub next_is : (links : List Link) (ends : Ends) (key : ℕ) (ahead behind : List ℕ) → IsQueue links ends (ahead ++ key ∷ behind) → IsSegment links (Some key) None behind (link_at links key).next ends.last
next_is links ends key ahead behind q = (round links ends key ahead behind q).back
