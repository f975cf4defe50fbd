-- The members of a set, by the marks of its tree.
use Rattle.std.proofs.Common.{◌≡◌, ◌≢◌, ◌==◌, if◌then◌else◌, ℕ, ◌+◌, ◌-◌, ◌/◌, ◌%◌, ◌<◌, ◌≤◌, true, false, List, Option, Some, None, IfSome, IfNone, ◌∙◌, ap, sym, refl, inl, inr, arith, lt-ltb, le-ltb, eq-eqb, ne_eqb}
use Rattle.std.specs.Int.{bit_at}
use Rattle.std.proofs.lemmas.Bool.{cases_eq, cases_lt}
use Rattle.std.proofs.lemmas.Nat.Bits.{bit_at-zero}
use Rattle.xm_price_maps.specs.Words.{word, IsShaped}
use Rattle.xm_price_maps.specs.Marks.{mark, IsAbove, IsBelow, IsClearAbove, IsClearBelow, AreMarksSound, IsMarkReady, IsChanged}
use Rattle.xm_price_maps.specs.Set.{Prices, has, HasRoom, IsNextAbove, IsNextBelow, IsFirstPrice, IsLastPrice}
use Rattle.xm_price_maps.proofs.Stored.{word_page, same_room, has_upper}
use Rattle.xm_price_maps.specs.declared.marks.TheConstants.{PRICES, UPPER}

pub has_inside : (s : Prices) (n : ℕ) → n < PRICES → has s n ≡ (mark s.pages n == 1)
unfolding has
has_inside s n h = rw (lt-ltb n PRICES h)

has_outside : (s : Prices) (n : ℕ) → PRICES ≤ n → has s n ≡ false
unfolding has
has_outside s n h = rw (le-ltb n PRICES h)

has_marked : (s : Prices) (n : ℕ) → n < PRICES → mark s.pages n ≡ 1 → has s n ≡ true
has_marked s n h marked = has_inside s n h ∙ eq-eqb _ 1 marked

has_clear : (s : Prices) (n : ℕ) → mark s.pages n ≡ 0 → has s n ≡ false
has_clear s n clear =
    elim (cases_lt n PRICES) [
      | inl inside ↦ has_inside s n inside ∙ ne_eqb _ 1 (λ e. omega arith)
      | inr outside ↦ has_outside s n outside
    ]

pub has_above : (s : Prices) (n m : ℕ) → n < PRICES → IsAbove s.pages n m → IsNextAbove s n m
has_above s n m small found =
    let within = (found.level 0 PRICES (inl (refl, refl)) (omega arith) small).1 in
    record {
      above = found.above;
      within = within;
      member = has_marked s m within found.marked;
      first = λ k low high. has_clear s k (found.between k low high);
    }

pub none_above : (s : Prices) (n : ℕ) → n < PRICES → IsClearAbove s.pages n → (k : ℕ) → n < k → has s k ≡ false
none_above s n small clear k above =
    elim (cases_lt k PRICES) [
      | inl inside ↦ has_clear s k (clear 0 PRICES (inl (refl, refl)) (omega arith) small k above inside)
      | inr outside ↦ has_outside s k outside
    ]

pub has_below : (s : Prices) (n m : ℕ) → n < PRICES → IsBelow s.pages n m → IsNextBelow s n m
has_below s n m small found =
    let below = found.below in
    record {
      below = below;
      member = has_marked s m (omega arith) found.marked;
      last = λ k low high. has_clear s k (found.between k low high);
    }

pub none_below : (s : Prices) (n : ℕ) → n < PRICES → IsClearBelow s.pages n → (k : ℕ) → k < n → has s k ≡ false
none_below s n small clear k below = has_clear s k (clear 0 PRICES (inl (refl, refl)) (omega arith) small k (omega arith) below)

-- where a price has room, its bit can change
pub ready : (s : Prices) (n v : ℕ) → n < PRICES → HasRoom s n → AreMarksSound s.pages → IsShaped s.pages → IsMarkReady s.pages n v
unfolding HasRoom
ready s n v small room sound shaped =
    let inside = word_page s.pages (n / 64) room in
    record {
      there = room;
      upper = has_upper s.pages shaped (omega arith);
      tied = λ w below apart. sound.tied w below;
      top = sound.top;
      stands = λ w e. absurd (omega arith);
    }

module _ (old new : Prices) (n v : ℕ) (small : n < PRICES) (changed : IsChanged old.pages new.pages n v) where
  others : (m : ℕ) → m ≢ n → has new m ≡ has old m
  others m differs =
      elim (cases_lt m PRICES) [
        | inl inside ↦ has_inside new m inside ∙ ap (λ (x : ℕ). x == 1) (same m inside differs) ∙ sym (has_inside old m inside)
        | inr outside ↦ has_outside new m outside ∙ sym (has_outside old m outside)
      ]
    where
      same : (m : ℕ) → m < PRICES → m ≢ n → mark new.pages m ≡ mark old.pages m
      same m inside differs =
          elim (cases_eq (m / 64) (n / 64)) [
            | inl one ↦ changed.same m one differs
            | inr apart ↦ ap (λ (x : ℕ). bit_at x (m % 64)) (changed.others (m / 64) (omega arith) apart)
          ]

  pub has_changed : (m : ℕ) → has new m ≡ (if m == n then v == 1 else has old m)
  has_changed m =
      elim (cases_eq m n) [
        | inl same ↦ rw (eq-eqb m n same) (ap (has new) same ∙ has_inside new n small ∙ ap (λ (x : ℕ). x == 1) changed.marked)
        | inr differs ↦ rw (ne_eqb m n differs) (others m differs)
      ]

  pub room_changed : (m : ℕ) → HasRoom old m → HasRoom new m
  unfolding HasRoom
  room_changed m room = same_room old.pages new.pages changed.shape (m / 64) room

-- where no word has changed, neither has the set
module _ (old new : List (List ℕ)) (same : (w : ℕ) → word new w ≡ word old w) where
  same_marks : (p : ℕ) → mark new p ≡ mark old p
  same_marks p = ap (λ (x : ℕ). bit_at x (p % 64)) (same (p / 64))

  pub same_sound : AreMarksSound old → AreMarksSound new
  same_sound sound = record {
    tied = λ w below. rw (same_marks (UPPER + w), same w) (sound.tied w below);
    top = λ j beyond. same_marks j ∙ sound.top j beyond;
  }

pub same_members : (old new : Prices) → ((w : ℕ) → word new.pages w ≡ word old.pages w) → (n : ℕ) → has new n ≡ has old n
same_members old new same n =
    elim (cases_lt n PRICES) [
      | inl inside ↦ has_inside new n inside ∙ ap (λ (x : ℕ). x == 1) (same_marks old.pages new.pages same n) ∙ sym (has_inside old n inside)
      | inr outside ↦ has_outside new n outside ∙ sym (has_outside old n outside)
    ]

mark_none : (pages : List (List ℕ)) → ((w : ℕ) → word pages w ≡ 0) → (p : ℕ) → mark pages p ≡ 0
mark_none pages none p = ap (λ (x : ℕ). bit_at x (p % 64)) (none (p / 64)) ∙ bit_at-zero (p % 64)

-- a tree in which no word has a bit
pub sound_none : (pages : List (List ℕ)) → ((w : ℕ) → word pages w ≡ 0) → AreMarksSound pages
sound_none pages none = record {
  tied = λ w below. record {
    used = λ m. absurd (let clear = mark_none pages none (UPPER + w) in omega arith);
    empty = λ _. none w;
  };
  top = λ j _. mark_none pages none j;
}

pub has_none : (s : Prices) → ((w : ℕ) → word s.pages w ≡ 0) → (n : ℕ) → has s n ≡ false
has_none s none n = has_clear s n (mark_none s.pages none n)

-- from the first and the last price of all
pub first_here : (s : Prices) → has s 0 ≡ true → IsFirstPrice s 0
first_here s member = record { within = omega arith; member = member; first = λ k below. absurd (omega arith) }

pub first_above : (s : Prices) (o : Option ℕ) → has s 0 ≡ false → IfSome o (IsNextAbove s 0) → IfSome o (IsFirstPrice s)
first_above s None none h = tt
first_above s (Some m) none h = record {
  within = h.within;
  member = h.member;
  first = λ k below.
      elim (cases_eq k 0) [
        | inl same ↦ rw same none
        | inr later ↦ h.first k (omega arith) below
      ];
}

pub none_from_first : (s : Prices) (o : Option ℕ) → has s 0 ≡ false → IfNone o ((n : ℕ) → 0 < n → has s n ≡ false) → IfNone o ((n : ℕ) → has s n ≡ false)
none_from_first s (Some m) none h = tt
none_from_first s None none h = λ n.
    elim (cases_eq n 0) [
      | inl same ↦ rw same none
      | inr later ↦ h n (omega arith)
    ]

-- what is not a member from the last price on
beyond_last : (s : Prices) → has s (PRICES - 1) ≡ false → (n : ℕ) → (PRICES - 1) ≤ n → has s n ≡ false
beyond_last s none n high =
    elim (cases_eq n (PRICES - 1)) [
      | inl same ↦ rw same none
      | inr outside ↦ has_outside s n (omega arith)
    ]

pub last_here : (s : Prices) → has s (PRICES - 1) ≡ true → IsLastPrice s (PRICES - 1)
last_here s member = record { within = omega arith; member = member; last = λ k above. has_outside s k (omega arith) }

pub last_below : (s : Prices) (o : Option ℕ) → has s (PRICES - 1) ≡ false → IfSome o (IsNextBelow s (PRICES - 1)) → IfSome o (IsLastPrice s)
last_below s None none h = tt
last_below s (Some m) none h =
    let below = h.below in
    record {
      within = omega arith;
      member = h.member;
      last = λ k above.
          elim (cases_lt k (PRICES - 1)) [
            | inl inside ↦ h.last k above inside
            | inr beyond ↦ beyond_last s none k beyond
          ];
    }

pub none_from_last : (s : Prices) (o : Option ℕ) → has s (PRICES - 1) ≡ false → IfNone o ((n : ℕ) → n < (PRICES - 1) → has s n ≡ false) → IfNone o ((n : ℕ) → has s n ≡ false)
none_from_last s (Some m) none h = tt
none_from_last s None none h = λ n.
    elim (cases_lt n (PRICES - 1)) [
      | inl inside ↦ h n inside
      | inr beyond ↦ beyond_last s none n beyond
    ]
