-- Trades of pairs: where one pair gives one more number and value, and the greatest number, it comes last.
use Rattle.std.proofs.Common.{◌≡◌, ℕ, ◌<◌, List, [], ◌∷◌, ◌++◌, Contains, Option, Some, None, refl, sym, ap, subst, ◌∙◌, ◌⊎◌, inl, inr, append_assoc}
use Rattle.std.specs.List.{filter_map, flat_map}
use Rattle.std.proofs.lemmas.List.Elements.{Contains-append_cases}
use Rattle.xm_book.proofs.Cutting.{CutAt, IsOther, cut_at, given_same, row_is}
use Rattle.xm_slots.proofs.Members.{Contains-here, Contains-there, Contains-none, IsGiven-filter_map}
use Rattle.xm_book.proofs.Sorting.{Below, in_order_last}
use Rattle.xm_rules.specs.Active.{Positioned}
use Rattle.xm_rules.specs.Priority.{in_order}
use Rattle.xm_rules.proofs.Positions.{Rising}

module _ {X A : Type 0} where
  flat_same : (f g : X → List A) (xs : List X) → ((x : X) → Contains xs x → g x ≡ f x) → flat_map g xs ≡ flat_map f xs
  flat_same f g [] h = refl
  flat_same f g (x ∷ xs) h = (λ i. h x (Contains-here x xs) i ++ flat_same f g xs (λ y at. h y (Contains-there x xs y at)) i)

  flat_append : (f : X → List A) (xs ys : List X) → flat_map f (xs ++ ys) ≡ flat_map f xs ++ flat_map f ys
  flat_append f [] ys = refl
  flat_append f (x ∷ xs) ys = ap (λ (l : List A). f x ++ l) (flat_append f xs ys) ∙ sym (append_assoc (f x) (flat_map f xs) (flat_map f ys))

  record IsOfOne (f : X → List A) (xs : List X) (a : A) : Type 0 where
    pub from : X
    pub contained : Contains xs from
    pub has : Contains (f from) a

  of_one : (f : X → List A) (xs : List X) (a : A) → Contains (flat_map f xs) a → IsOfOne f xs a
  of_one f [] a at = absurd (Contains-none a at)
  of_one f (x ∷ xs) a at = one_by f x xs a (of_one f xs a) (Contains-append_cases (f x) (flat_map f xs) a at)
    where
      one_by : (f : X → List A) (x : X) (xs : List X) (a : A) → (Contains (flat_map f xs) a → IsOfOne f xs a) → Contains (f x) a ⊎ Contains (flat_map f xs) a → IsOfOne f (x ∷ xs) a
      one_by f x xs a rest (inl at) = record { from = x; contained = Contains-here x xs; has = at }
      one_by f x xs a rest (inr at) = let r = rest at in record { from = r.from; contained = Contains-there x xs r.from r.contained; has = r.has }

-- what each pair gives, before and after
module _ {A : Type 0} (f g : Positioned → Positioned → Option (ℕ × A)) (xs ys : List Positioned) where
  abbrev pub all_of : (Positioned → Positioned → Option (ℕ × A)) → List (ℕ × A)
  all_of h = flat_map (λ (x : Positioned). filter_map (h x) ys) xs

  pub record GivesLast (b s : Positioned) (e : ℕ × A) : Type 0 where
    pub first : Contains xs b
    pub second : Contains ys s
    pub none : f b s ≡ None
    pub some : g b s ≡ Some e
    pub same : (x y : Positioned) → Contains xs x → Contains ys y → IsOther b x ⊎ IsOther s y → g x y ≡ f x y
    pub below : (x y : Positioned) (z : ℕ × A) → Contains xs x → Contains ys y → f x y ≡ Some z → z.0 < e.0

  all_below : (b s : Positioned) (e : ℕ × A) → GivesLast b s e → Below e.0 (all_of f)
  all_below b s e h z at =
      let one = of_one (λ (x : Positioned). filter_map (f x) ys) xs z at in
      let given = IsGiven-filter_map (f one.from) ys z one.has in
      h.below one.from given.from z one.contained given.contains given.given

  -- the whole, cut at the row
  whole_is : (h : Positioned → Positioned → Option (ℕ × A)) (b : Positioned) (c : CutAt xs b) (row : List (ℕ × A)) → filter_map (h b) ys ≡ row
      → ((x y : Positioned) → Contains xs x → Contains ys y → IsOther b x → h x y ≡ f x y)
      → all_of h ≡ flat_map (λ (x : Positioned). filter_map (f x) ys) c.ahead ++ (row ++ flat_map (λ (x : Positioned). filter_map (f x) ys) c.behind)
  whole_is h b c row e same =
      let of_h = λ (x : Positioned). filter_map (h x) ys in
      let of_f = λ (x : Positioned). filter_map (f x) ys in
      ap (flat_map of_h) c.is ∙ flat_append of_h c.ahead (b ∷ c.behind)
      ∙ (λ i. flat_same of_f of_h c.ahead (λ x at. let t = c.others_ahead x at in given_same (f x) (h x) ys (λ y to. same x y t.0 to t.1)) i
      ++ (e i ++ flat_same of_f of_h c.behind (λ x at. let t = c.others_behind x at in given_same (f x) (h x) ys (λ y to. same x y t.0 to t.1)) i))

  joined : (p q r t : List (ℕ × A)) → p ++ ((q ++ r) ++ t) ≡ (p ++ q) ++ (r ++ t)
  joined p q r t = ap (λ (l : List (ℕ × A)). p ++ l) (append_assoc q r t) ∙ sym (append_assoc p q (r ++ t))

  pub gives_last : Rising xs → Rising ys → (b s : Positioned) (e : ℕ × A) → GivesLast b s e → in_order (all_of g) ≡ in_order (all_of f) ++ e.1 ∷ []
  gives_last rx ry b s e h =
      let cx = cut_at xs rx b h.first in
      let cy = cut_at ys ry s h.second in
      let of_f = λ (x : Positioned). filter_map (f x) ys in
      let p = flat_map of_f cx.ahead in
      let q = filter_map (f b) cy.ahead in
      let r = filter_map (f b) cy.behind in
      let t = flat_map of_f cx.behind in
      let before : all_of f ≡ (p ++ q) ++ (r ++ t) =
      whole_is f b cx (q ++ r) (row_is (f b) (f b) ys s cy None h.none (λ y at other. refl)) (λ x y at to other. refl) ∙ joined p q r t in
      let after : all_of g ≡ (p ++ q) ++ e ∷ (r ++ t) =
      whole_is g b cx (q ++ e ∷ r) (row_is (f b) (g b) ys s cy (Some e) h.some (λ y at other. h.same b y h.first at (inr other))) (λ x y at to other. h.same x y at to (inl other)) ∙ joined p q (e ∷ r) t in
      let low : Below e.0 ((p ++ q) ++ (r ++ t)) = subst (λ (l : List (ℕ × A)). Below e.0 l) before (all_below b s e h) in
      ap in_order after ∙ in_order_last e (p ++ q) (r ++ t) low ∙ ap (λ (l : List (ℕ × A)). in_order l ++ e.1 ∷ []) (sym before)
