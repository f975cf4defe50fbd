-- The first key of a queue, and of what is left of it behind a key.
use Rattle.std.proofs.Common.{◌≡◌, ◌∙◌, ℕ, zero, suc, ◌<◌, List, [], ◌∷◌, ◌++◌, length, Contains, Option, Some, None, IfSome, refl, slice_get, get_or, arith}
use Rattle.xm_queues.proofs.Changes.{key_within, next_is, prev_member, next_member}
use Rattle.xm_queues.proofs.Segments.{last_member}
use Rattle.xm_queues.specs.Queue.{no_link, link_at, IsSegment, IsQueue}
use Rattle.xm_queues.specs.declared.queues.Ends.{Ends}
use Rattle.xm_queues.specs.declared.links.Link.{Link}

segment_first : (links : List Link) (before : Option ℕ) (ks : List ℕ) (first last : Option ℕ) → IsSegment links before None ks first last → first ≡ slice_get ks 0
unfolding IsSegment
segment_first links before [] first last s = s.0
segment_first links before (k ∷ ks) first last s = s.0

pub front_is : (links : List Link) (ends : Ends) (keys : List ℕ) → IsQueue links ends keys → ends.first ≡ slice_get keys 0
front_is links ends keys q = segment_first links None keys _ _ q.linked

pub behind_is : (links : List Link) (ends : Ends) (key : ℕ) (ahead behind : List ℕ) → IsQueue links ends (ahead ++ key ∷ behind) → (link_at links key).next ≡ slice_get behind 0
behind_is links ends key ahead behind q = segment_first links (Some key) behind _ _ (next_is links ends key ahead behind q)

-- ---- what stands at an optional key has room

if_some : (o : Option ℕ) (P : ℕ → Type 0) → ((k : ℕ) → o ≡ Some k → P k) → IfSome o P
if_some None P h = tt
if_some (Some k) P h = h k refl

pub last_within : (links : List Link) (ends : Ends) (keys : List ℕ) (n : ℕ) → n ≡ length links → IsQueue links ends keys → IfSome ends.last (λ k. k < n)
last_within links ends keys n is q =
    if_some ends.last (λ k. k < n)
    (λ k last. rw is (key_within links ends keys k q (last_member links None keys _ _ k q.linked last)))

pub prev_within : (links : List Link) (ends : Ends) (keys : List ℕ) (key n : ℕ) → n ≡ length links → IsQueue links ends keys → Contains keys key → IfSome (link_at links key).prev (λ k. k < n)
prev_within links ends keys key n is q at =
    if_some (link_at links key).prev (λ k. k < n)
    (λ k prev. rw is (key_within links ends keys k q (prev_member links ends key keys k q at prev)))

pub next_within : (links : List Link) (ends : Ends) (keys : List ℕ) (key n : ℕ) → n ≡ length links → IsQueue links ends keys → Contains keys key → IfSome (link_at links key).next (λ k. k < n)
next_within links ends keys key n is q at =
    if_some (link_at links key).next (λ k. k < n)
    (λ k next. rw is (key_within links ends keys k q (next_member links ends key keys k q at next)))

get_or-default : (links : List Link) (key : ℕ) (a b : Link) → key < length links → get_or links key a ≡ get_or links key b
get_or-default [] key a b within = absurd (omega arith)
get_or-default (x ∷ xs) zero a b within = refl
get_or-default (x ∷ xs) (suc key) a b within = get_or-default xs key a b (omega arith)

-- what is read at a key within the links is its link
pub read_link : (items links : List Link) (key : ℕ) (link : Link) → items ≡ links → key < length links → link ≡ get_or items key link → link ≡ link_at links key
read_link items links key link is within read =
    let there : link ≡ get_or links key link = rw is at read in
    there ∙ get_or-default links key link no_link within
