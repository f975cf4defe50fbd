-- What the links of keys say of their queues.
use Rattle.std.specs.Prelude.{◌≡◌, ◌<◌, ℕ, zero, suc, List, [], ◌∷◌, Contains, length, Option, Some, None, slice_index_or, slice_set}
use Rattle.xm_queues.specs.Keys.{AreDistinct}
use Rattle.xm_queues.specs.declared.queues.Ends.{Ends}
use Rattle.xm_queues.specs.declared.links.Link.{Link}

-- each key below this has room
abbrev pub key_limit : List Link → ℕ
key_limit links = length links

-- what a read past the links gives
abbrev pub no_link : Link
no_link = record { prev = None; next = None }

abbrev pub link_at : List Link → ℕ → Link
link_at links key = slice_index_or links key no_link

-- the links with another link of one key
abbrev pub with_link : List Link → ℕ → Link → List Link
with_link links key link = slice_set links key link

-- the links where this key leads to that one
abbrev pub with_next : List Link → Option ℕ → Option ℕ → List Link
with_next links None next = links
with_next links (Some key) next = with_link links key (record { prev = (link_at links key).prev; next = next })

-- the links where this key leads back to that one
abbrev pub with_prev : List Link → Option ℕ → Option ℕ → List Link
with_prev links None prev = links
with_prev links (Some key) prev = with_link links key (record { prev = prev; next = (link_at links key).next })

-- the end of a queue, once the key at this place leads to another one
abbrev pub end_after : Option ℕ → Option ℕ → Option ℕ → Option ℕ
end_after end None to = to
end_after end (Some key) to = end

-- the ends of a queue once this key stands behind its last one
abbrev pub ends_with : Ends → ℕ → Ends
ends_with ends key = record { first = end_after ends.first ends.last (Some key); last = Some key }

-- the ends of a queue once this key has left it
abbrev pub ends_without : List Link → Ends → ℕ → Ends
ends_without links ends key =
    let link = link_at links key in
    record { first = end_after ends.first link.prev link.next; last = end_after ends.last link.next link.prev }

-- the links lead from what stands before these keys through them to what stands after, and back
unfoldable pub IsSegment : List Link → Option ℕ → Option ℕ → List ℕ → Option ℕ → Option ℕ → Type 0
IsSegment links before after [] first last = (first ≡ after) × (last ≡ before)
IsSegment links before after (k ∷ ks) first last =
    (first ≡ Some k) × (k < length links) × ((link_at links k).prev ≡ before)
    × IsSegment links (Some k) after ks (link_at links k).next last

-- so many keys at most, from this one on
unfoldable pub keys_from : List Link → ℕ → Option ℕ → List ℕ
keys_from links zero key = []
keys_from links (suc n) None = []
keys_from links (suc n) (Some key) = key ∷ keys_from links n (link_at links key).next

-- the keys of the queue with these ends, from first to last
unfoldable pub keys_of : List Link → Ends → List ℕ
keys_of links ends = keys_from links (length links) ends.first

-- the queue with these ends holds these keys, from first to last
pub record IsQueue (links : List Link) (ends : Ends) (keys : List ℕ) : Type 0 where
  pub linked : IsSegment links None None keys ends.first ends.last
  pub distinct : AreDistinct keys

-- these are the ends of a queue that does not hold the key
pub record LacksKey (links : List Link) (ends : Ends) (key : ℕ) : Type 0 where
  pub keys : List ℕ
  pub queue : IsQueue links ends keys
  pub absent : ¬ Contains keys key

-- these are the ends of a queue that holds the key
pub record HasKey (links : List Link) (ends : Ends) (key : ℕ) : Type 0 where
  pub keys : List ℕ
  pub queue : IsQueue links ends keys
  pub member : Contains keys key
