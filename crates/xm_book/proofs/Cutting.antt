-- A list that is cut at one of its orders: where one order gives one more number and value, and the greatest number, it comes last.
use Rattle.std.proofs.Common.{◌≡◌, ℕ, ◌<◌, List, [], ◌∷◌, ◌++◌, Contains, Option, Some, None, refl, sym, ap, subst, ◌∙◌, ◌⊎◌, inl, inr, arith}
use Rattle.std.specs.List.{filter_map, cons_option}
use Rattle.std.proofs.lemmas.List.Elements.{filter_map-append}
use Rattle.xm_book.proofs.Firsts.{later_in}
use Rattle.xm_slots.proofs.Members.{Contains-cases, Contains-here, Contains-there, Contains-none, IsGiven-filter_map}
use Rattle.xm_book.proofs.Sorting.{Below, in_order_last}
use Rattle.xm_rules.specs.Active.{Positioned}
use Rattle.xm_rules.specs.Priority.{in_order}
use Rattle.xm_rules.proofs.Positions.{Later, Rising}

-- at another position
abbrev pub IsOther : Positioned → Positioned → Type 0
IsOther x i = i.position ≡ x.position → ⊥

-- a list, cut at one of its orders
pub record CutAt (xs : List Positioned) (x : Positioned) : Type 0 where
  pub ahead : List Positioned
  pub behind : List Positioned
  pub is : xs ≡ ahead ++ x ∷ behind
  pub others_ahead : (i : Positioned) → Contains ahead i → Contains xs i × IsOther x i
  pub others_behind : (i : Positioned) → Contains behind i → Contains xs i × IsOther x i

cut_here : (y : Positioned) (xs : List Positioned) (x : Positioned) → Later y xs → y ≡ x → CutAt (y ∷ xs) x
cut_here y xs x late e = record {
  ahead = [];
  behind = xs;
  is = ap (λ (z : Positioned). z ∷ xs) e;
  others_ahead = λ i at. absurd (Contains-none i at);
  others_behind = λ i at. (Contains-there y xs i at, λ f. absurd (let l = later_in y xs i late at in let p : y.position ≡ x.position = ap (λ (z : Positioned). z.position) e in omega arith));
}

cut_later : (y : Positioned) (xs : List Positioned) (x : Positioned) → Later y xs → Contains xs x → CutAt xs x → CutAt (y ∷ xs) x
cut_later y xs x late at c = record {
  ahead = y ∷ c.ahead;
  behind = c.behind;
  is = ap (λ (l : List Positioned). y ∷ l) c.is;
  others_ahead = λ i to. by_cases i (Contains-cases y c.ahead i to);
  others_behind = λ i to. let o = c.others_behind i to in (Contains-there y xs i o.0, o.1);
}
  where
    by_cases : (i : Positioned) → (y ≡ i) ⊎ Contains c.ahead i → Contains (y ∷ xs) i × IsOther x i
    by_cases i (inl e) = (
      subst (λ (z : Positioned). Contains (y ∷ xs) z) e (Contains-here y xs),
      λ f. absurd (let l = later_in y xs x late at in let p : y.position ≡ i.position = ap (λ (z : Positioned). z.position) e in omega arith),
    )
    by_cases i (inr to) = let o = c.others_ahead i to in (Contains-there y xs i o.0, o.1)

pub cut_at : (xs : List Positioned) → Rising xs → (x : Positioned) → Contains xs x → CutAt xs x
cut_at [] rising x at = absurd (Contains-none x at)
cut_at (y ∷ xs) rising x at = cut_by y xs x rising.0 (λ i. cut_at xs rising.1 x i) (Contains-cases y xs x at)
  where
    cut_by : (y : Positioned) (xs : List Positioned) (x : Positioned) → Later y xs → (Contains xs x → CutAt xs x) → (y ≡ x) ⊎ Contains xs x → CutAt (y ∷ xs) x
    cut_by y xs x late rest (inl e) = cut_here y xs x late e
    cut_by y xs x late rest (inr i) = cut_later y xs x late i (rest i)

module _ {X A : Type 0} where
  pub given_same : (f g : X → Option A) (xs : List X) → ((x : X) → Contains xs x → g x ≡ f x) → filter_map g xs ≡ filter_map f xs
  given_same f g [] h = refl
  given_same f g (x ∷ xs) h = (λ i. cons_option (h x (Contains-here x xs) i) (given_same f g xs (λ y at. h y (Contains-there x xs y at)) i))

  pub none_given : (f : X → Option A) (xs : List X) → ((x : X) → f x ≡ None) → filter_map f xs ≡ []
  none_given f [] h = refl
  none_given f (x ∷ xs) h = rw (h x) (none_given f xs h)

-- what each gives, before and after, where it changes for one alone
pub row_is : {A : Type 0} (f g : Positioned → Option A) (xs : List Positioned) (s : Positioned) (c : CutAt xs s) (o : Option A) → g s ≡ o
    → ((y : Positioned) → Contains xs y → IsOther s y → g y ≡ f y) → filter_map g xs ≡ filter_map f c.ahead ++ cons_option o (filter_map f c.behind)
row_is f g xs s c o e same =
    ap (filter_map g) c.is ∙ filter_map-append g c.ahead (s ∷ c.behind)
    ∙ (λ i. given_same f g c.ahead (λ y at. let t = c.others_ahead y at in same y t.0 t.1) i
    ++ cons_option (e i) (given_same f g c.behind (λ y at. let t = c.others_behind y at in same y t.0 t.1) i))

module _ {A : Type 0} (f g : Positioned → Option (ℕ × A)) (xs : List Positioned) where
  pub record IsLast (s : Positioned) (e : ℕ × A) : Type 0 where
    pub contained : Contains xs s
    pub none : f s ≡ None
    pub some : g s ≡ Some e
    pub same : (y : Positioned) → Contains xs y → IsOther s y → g y ≡ f y
    pub below : (y : Positioned) (z : ℕ × A) → Contains xs y → f y ≡ Some z → z.0 < e.0

  all_below : (s : Positioned) (e : ℕ × A) → IsLast s e → Below e.0 (filter_map f xs)
  all_below s e h z at = let given = IsGiven-filter_map f xs z at in h.below given.from z given.contains given.given

  pub one_last : Rising xs → (s : Positioned) (e : ℕ × A) → IsLast s e → in_order (filter_map g xs) ≡ in_order (filter_map f xs) ++ e.1 ∷ []
  one_last rising s e h =
      let c = cut_at xs rising s h.contained in
      let ahead = filter_map f c.ahead in
      let behind = filter_map f c.behind in
      let before : filter_map f xs ≡ ahead ++ behind = row_is f f xs s c None h.none (λ y at other. refl) in
      let after : filter_map g xs ≡ ahead ++ e ∷ behind = row_is f g xs s c (Some e) h.some h.same in
      let low : Below e.0 (ahead ++ behind) = subst (λ (l : List (ℕ × A)). Below e.0 l) before (all_below s e h) in
      ap in_order after ∙ in_order_last e ahead behind low ∙ ap (λ (l : List (ℕ × A)). in_order l ++ e.1 ∷ []) (sym before)
