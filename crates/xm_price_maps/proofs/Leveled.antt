-- What the set, the keys and the slab of levels say.
use Rattle.std.proofs.Common.{◌≡◌, ◌≢◌, ℕ, ◌<◌, Bool, true, false, ◌==◌, if◌then◌else◌, List, Option, Some, None, is_some, IsSome, IfSome, IfNone, slice_index_or, count_by, cond, ◌≤◌, option_map, refl, sym, ap, rules, ◌∙◌, subst, arith, nat_eq}
use Rattle.std.specs.Option.{option_and_then}
use Rattle.std.proofs.lemmas.Bool.{eqb-true, false≢true}
use Rattle.std.proofs.lemmas.Bool.Decides.{nat_tests}
use Rattle.slab.specs.Slab.{Slab, ContainsKey, HasRoomFor, get, slab_len, with_value, Updates}
use Rattle.slab.proofs.SlabLemmas.{ContainsKey-within, Updates-with_value}
use Rattle.std.proofs.lemmas.List.Sums.{sum_by-set}
use Rattle.xm_price_maps.specs.Levels.{HasPrice, HasLevelRoom, IsFirstLevel, IsLastLevel, IsLaidOut, IsLevelAbove, IsLevelBelow, LevelsView, Lies, level_at}
use Rattle.xm_price_maps.specs.Map as map
use Rattle.xm_price_maps.specs.Set as set
use Rattle.xm_price_maps.specs.declared.levels.Priced.{Priced}
use Rattle.xm_price_maps.specs.declared.marks.TheConstants.{PRICES}

some_none : {X : Type 0} {x : X} → Some x ≡ None → ⊥
some_none h = cc

same_some : {X : Type 0} {x y : X} → Some x ≡ Some y → x ≡ y
same_some h = cc

differs : (m n : ℕ) → nat_eq m n ≡ false → m ≢ n
differs m n e same = absurd (false≢true (sym e ∙ subst (λ k. nat_eq m k ≡ true) same (itself m)))
  where
    itself : (m : ℕ) → nat_eq m m ≡ true
    itself m = grind (arith, nat_tests)

module _ {L : Type 0} where
  abbrev pub view : set.Prices → List (List (Option ℕ)) → Slab (Priced L) → LevelsView L
  view prices keys slab = record { prices = prices; keys = keys; slab = slab }

  -- the level of what a key leads to
  abbrev pub level_by : Slab (Priced L) → Option ℕ → Option L
  level_by slab o = option_map (λ (x : Priced L). x.level) (option_and_then (λ (k : ℕ). get slab k) o)

  pub level_is : (prices : set.Prices) (keys : List (List (Option ℕ))) (slab : Slab (Priced L)) (p : ℕ) → level_at (view prices keys slab) p ≡ level_by slab (map.value_at keys p)
  unfolding level_at
  level_is prices keys slab p = refl

  module _ (prices : set.Prices) (keys : List (List (Option ℕ))) (slab : Slab (Priced L)) (h : IsLaidOut prices keys slab) where
    by_if : (p : ℕ) (o : Option ℕ) → map.value_at keys p ≡ o → is_some (level_by slab o) ≡ is_some o
    by_if p None e = refl
    by_if p (Some k) e = ap (λ (x : Option (Priced L)). is_some (option_map (λ (y : Priced L). y.level) x)) (h.lies p k e).there

    -- a price is in the set where it has a level
    pub has-level : (p : ℕ) → set.has prices p ≡ is_some (level_at (view prices keys slab) p)
    has-level p = h.marked p ∙ sym (ap is_some (level_is prices keys slab p) ∙ by_if p (map.value_at keys p) refl)

    pub none-at : (p : ℕ) → set.has prices p ≡ false → level_at (view prices keys slab) p ≡ None
    none-at p e = none_if (level_at (view prices keys slab) p) (sym (has-level p) ∙ e)
      where
        none_if : (o : Option L) → is_some o ≡ false → o ≡ None
        none_if None h = refl
        none_if (Some x) h = absurd (cc)

    there : (p : ℕ) → set.has prices p ≡ true → IsSome (level_at (view prices keys slab) p)
    there p e = some_if (level_at (view prices keys slab) p) (sym (has-level p) ∙ e)
      where
        some_if : (o : Option L) → is_some o ≡ true → IsSome o
        some_if None h = absurd (cc)
        some_if (Some x) h = search rules

    pub first-level : (o : Option ℕ) → IfSome o (set.IsFirstPrice prices) → IfSome o (IsFirstLevel (view prices keys slab))
    first-level None h = h
    first-level (Some p) h = record { within = h.within; there = there p h.member; first = λ q l. none-at q (h.first q l) }

    pub last-level : (o : Option ℕ) → IfSome o (set.IsLastPrice prices) → IfSome o (IsLastLevel (view prices keys slab))
    last-level None h = h
    last-level (Some p) h = record { within = h.within; there = there p h.member; last = λ q l. none-at q (h.last q l) }

    pub level-above : (n : ℕ) (o : Option ℕ) → IfSome o (set.IsNextAbove prices n) → IfSome o (IsLevelAbove (view prices keys slab) n)
    level-above n None h = h
    level-above n (Some p) h = record { above = h.above; within = h.within; there = there p h.member; first = λ q l m. none-at q (h.first q l m) }

    pub level-below : (n : ℕ) (o : Option ℕ) → IfSome o (set.IsNextBelow prices n) → IfSome o (IsLevelBelow (view prices keys slab) n)
    level-below n None h = h
    level-below n (Some p) h = record { below = h.below; there = there p h.member; last = λ q l m. none-at q (h.last q l m) }

    pub none-all : (o : Option ℕ) (P : ℕ → Type 0) → IfNone o ((q : ℕ) → P q → set.has prices q ≡ false) → IfNone o ((q : ℕ) → P q → level_at (view prices keys slab) q ≡ None)
    none-all None P h = λ q x. none-at q (h q x)
    none-all (Some p) P h = h

    pub none-anywhere : (o : Option ℕ) → IfNone o ((q : ℕ) → set.has prices q ≡ false) → IfNone o ((q : ℕ) → level_at (view prices keys slab) q ≡ None)
    none-anywhere None h = λ q. none-at q (h q)
    none-anywhere (Some p) h = h

    -- under another price's key lies another level
    other_key : (p q k : ℕ) → p ≢ q → map.value_at keys p ≡ Some k → (m : ℕ) → map.value_at keys q ≡ Some m → m ≢ k
    other_key p q k apart e m f same =
        let there = (h.lies p k e).there in
        let other = subst (λ n. get slab n ≡ Some (record { price = q; level = (h.lies q m f).level })) same (h.lies q m f).there in
        apart (ap (λ (x : Priced L). x.price) (same_some (sym there ∙ other)))

    -- the keys lead on to what they led to, where one slot changed that none of them leads to
    pub same_by : (new : Slab (Priced L)) (key : ℕ) (slot : Option (Priced L)) → Updates slab new key slot → (o : Option ℕ) → ((m : ℕ) → o ≡ Some m → m ≢ key) → level_by new o ≡ level_by slab o
    same_by new key slot u None out = refl
    same_by new key slot u (Some m) out = ap (option_map (λ (x : Priced L). x.level)) (u.others m (out m refl))

    pub keeps_lying : (new : Slab (Priced L)) (key : ℕ) (slot : Option (Priced L)) → Updates slab new key slot → (q m : ℕ) → m ≢ key → Lies slab q m → Lies new q m
    keeps_lying new key slot u q m out l = record { within = l.within; level = l.level; there = u.others m out ∙ l.there }

    pub there-at : (p key : ℕ) → map.value_at keys p ≡ Some key → ContainsKey slab key
    there-at p key at = is_there (get slab key) (h.lies p key at).there
      where
        is_there : (o : Option (Priced L)) → o ≡ Some (record { price = p; level = (h.lies p key at).level }) → IsSome o
        is_there None e = absurd (cc)
        is_there (Some x) e = search rules

    pub price-at : (p key : ℕ) → map.value_at keys p ≡ Some key → (x : Priced L) → get slab key ≡ Some x → x.price ≡ p
    price-at p key at x there = ap (λ (y : Priced L). y.price) (same_some (sym there ∙ (h.lies p key at).there))

    -- another level of the same price is put under its key
    module _ (p key : ℕ) (at : map.value_at keys p ≡ Some key) (l : L) where
      abbrev pub written : Slab (Priced L)
      written = with_value slab key (record { price = p; level = l })

      update : Updates slab written key (Some (record { price = p; level = l }))
      update = Updates-with_value slab key (record { price = p; level = l }) (there-at p key at)

      counted : slab_len written ≡ slab_len slab
      counted =
          let one : ℕ = 1 in
          let full : cond (is_some (get slab key)) 1 0 ≡ one = ap (λ (o : Option (Priced L)). cond (is_some o) 1 0) (h.lies p key at).there in
          omega (arith, full, sum_by-set (λ (o : Option (Priced L)). cond (is_some o) 1 0) slab.slots key (Some (record { price = p; level = l })) None (ContainsKey-within slab key (there-at p key at)))

      pub written-prices : (q : ℕ) → HasPrice (view prices keys slab) q → HasPrice (view prices keys written) q
      unfolding HasPrice
      written-prices q r = r

      pub written-room : (n : ℕ) → HasLevelRoom (view prices keys slab) n → HasLevelRoom (view prices keys written) n
      unfolding HasLevelRoom
      written-room n r = omega (arith, counted, r)

      pub written-lies : IsLaidOut prices keys written
      written-lies = record { marked = h.marked; lies = λ q m e. lies_if q m e (nat_eq q p) refl }
        where
          lies_if : (q m : ℕ) → map.value_at keys q ≡ Some m → (b : Bool) → nat_eq q p ≡ b → Lies written q m
          lies_if q m e true t =
              let same = eqb-true q p t in
              let key_is : key ≡ m = same_some (sym at ∙ subst (λ (r : ℕ). map.value_at keys r ≡ Some m) same e) in
              record { within = (h.lies q m e).within; level = l; there = subst (λ (k : ℕ). get written k ≡ Some (record { price = q; level = l })) key_is (update.changed ∙ ap (λ (r : ℕ). Some (record { price = r; level = l })) (sym same)) }
          lies_if q m e false t =
              keeps_lying written key (Some (record { price = p; level = l })) update q m (other_key p q key (λ same. differs q p t (sym same)) at m e) (h.lies q m e)

      pub written-level : (q : ℕ) → level_at (view prices keys written) q ≡ (if q == p then Some l else level_at (view prices keys slab) q)
      written-level q = level_is prices keys written q ∙ level_if (nat_eq q p) refl
        where
          level_if : (b : Bool) → nat_eq q p ≡ b → level_by written (map.value_at keys q) ≡ (if b then Some l else level_at (view prices keys slab) q)
          level_if true t =
              ap (λ (r : ℕ). level_by written (map.value_at keys r)) (eqb-true q p t) ∙ ap (level_by written) at ∙ ap (option_map (λ (x : Priced L). x.level)) update.changed
          level_if false t =
              same_by written key (Some (record { price = p; level = l })) update (map.value_at keys q) (λ m e. other_key p q key (λ same. differs q p t (sym same)) at m e)
              ∙ sym (level_is prices keys slab q)

    lies-vacant : (q m key : ℕ) → Lies slab q m → get slab key ≡ None → m ≢ key
    lies-vacant q m key x vacant same = some_none (sym x.there ∙ ap (get slab) same ∙ vacant)

    -- a level of a price that had none is put under a key that was vacant
    module _ (p key : ℕ) (within : p < PRICES) (l : L) (new : Slab (Priced L)) (vacant : get slab key ≡ None) (u : Updates slab new key (Some (record { price = p; level = l })))
        (keys' : List (List (Option ℕ))) (leads : (q : ℕ) → map.value_at keys' q ≡ (if q == p then Some key else map.value_at keys q))
        (prices' : set.Prices) (marks : (q : ℕ) → set.has prices' q ≡ (if q == p then true else set.has prices q)) where
      pub begun-lies : IsLaidOut prices' keys' new
      begun-lies = record { marked = λ q. marks q ∙ marked_if q (nat_eq q p) ∙ sym (ap is_some (leads q)); lies = λ q m e. lies_if q m (nat_eq q p) refl (sym (leads q) ∙ e) }
        where
          marked_if : (q : ℕ) (b : Bool) → (if b then true else set.has prices q) ≡ is_some (if b then Some key else map.value_at keys q)
          marked_if q true = refl
          marked_if q false = h.marked q

          lies_if : (q m : ℕ) (b : Bool) → nat_eq q p ≡ b → (if b then Some key else map.value_at keys q) ≡ Some m → Lies new q m
          lies_if q m true t e =
              let same = eqb-true q p t in
              record {
                within = subst (λ (r : ℕ). r < PRICES) (sym same) within;
                level = l;
                there = subst (λ (k : ℕ). get new k ≡ Some (record { price = q; level = l })) (same_some e) (u.changed ∙ ap (λ (r : ℕ). Some (record { price = r; level = l })) (sym same));
              }
          lies_if q m false t e = keeps_lying new key (Some (record { price = p; level = l })) u q m (lies-vacant q m key (h.lies q m e) vacant) (h.lies q m e)

      pub begun-level : (q : ℕ) → level_at (view prices' keys' new) q ≡ (if q == p then Some l else level_at (view prices keys slab) q)
      begun-level q = level_is prices' keys' new q ∙ ap (level_by new) (leads q) ∙ level_if (nat_eq q p)
        where
          level_if : (b : Bool) → level_by new (if b then Some key else map.value_at keys q) ≡ (if b then Some l else level_at (view prices keys slab) q)
          level_if true = ap (option_map (λ (x : Priced L). x.level)) u.changed
          level_if false =
              same_by new key (Some (record { price = p; level = l })) u (map.value_at keys q) (λ m e. lies-vacant q m key (h.lies q m e) vacant) ∙ sym (level_is prices keys slab q)

    -- the level of a price leaves
    module _ (p key : ℕ) (at : map.value_at keys p ≡ Some key) (new : Slab (Priced L)) (u : Updates slab new key None)
        (keys' : List (List (Option ℕ))) (leads : (q : ℕ) → map.value_at keys' q ≡ (if q == p then None else map.value_at keys q))
        (prices' : set.Prices) (marks : (q : ℕ) → set.has prices' q ≡ (if q == p then false else set.has prices q)) where
      pub ended-lies : IsLaidOut prices' keys' new
      ended-lies = record { marked = λ q. marks q ∙ marked_if q (nat_eq q p) ∙ sym (ap is_some (leads q)); lies = λ q m e. lies_if q m (nat_eq q p) refl (sym (leads q) ∙ e) }
        where
          marked_if : (q : ℕ) (b : Bool) → (if b then false else set.has prices q) ≡ is_some (if b then None else map.value_at keys q)
          marked_if q true = refl
          marked_if q false = h.marked q

          lies_if : (q m : ℕ) (b : Bool) → nat_eq q p ≡ b → (if b then None else map.value_at keys q) ≡ Some m → Lies new q m
          lies_if q m true t e = absurd (cc)
          lies_if q m false t e = keeps_lying new key None u q m (other_key p q key (λ same. differs q p t (sym same)) at m e) (h.lies q m e)

      pub ended-level : (q : ℕ) → level_at (view prices' keys' new) q ≡ (if q == p then None else level_at (view prices keys slab) q)
      ended-level q = level_is prices' keys' new q ∙ ap (level_by new) (leads q) ∙ level_if (nat_eq q p) refl
        where
          level_if : (b : Bool) → nat_eq q p ≡ b → level_by new (if b then None else map.value_at keys q) ≡ (if b then None else level_at (view prices keys slab) q)
          level_if true t = refl
          level_if false t = same_by new key None u (map.value_at keys q) (λ m e. other_key p q key (λ same. differs q p t (sym same)) at m e) ∙ sym (level_is prices keys slab q)

    -- room is made
    module _ (prices' : set.Prices) (marks : (q : ℕ) → set.has prices' q ≡ set.has prices q) (keys' : List (List (Option ℕ))) (leads : (q : ℕ) → map.value_at keys' q ≡ map.value_at keys q) (new : Slab (Priced L))
        (slots : new.slots ≡ slab.slots) where
      same-get : (k : ℕ) → get new k ≡ get slab k
      same-get k = ap (λ (os : List (Option (Priced L))). slice_index_or os k None) slots

      pub grown-lies : IsLaidOut prices' keys' new
      grown-lies = record {
        marked = λ q. marks q ∙ h.marked q ∙ sym (ap is_some (leads q));
        lies = λ q m e. (let l = h.lies q m (sym (leads q) ∙ e) in record { within = l.within; level = l.level; there = same-get m ∙ l.there });
      }

      pub grown-level : (q : ℕ) → level_at (view prices' keys' new) q ≡ level_at (view prices keys slab) q
      grown-level q = level_is prices' keys' new q ∙ ap (level_by new) (leads q) ∙ level_if (map.value_at keys q) ∙ sym (level_is prices keys slab q)
        where
          level_if : (o : Option ℕ) → level_by new o ≡ level_by slab o
          level_if None = refl
          level_if (Some k) = ap (option_map (λ (x : Priced L). x.level)) (same-get k)

    pub absent-level : (p : ℕ) → map.value_at keys p ≡ None → (q : ℕ) → level_at (view prices keys slab) q ≡ (if q == p then None else level_at (view prices keys slab) q)
    absent-level p e q = level_if (nat_eq q p) refl
      where
        level_if : (b : Bool) → nat_eq q p ≡ b → level_at (view prices keys slab) q ≡ (if b then None else level_at (view prices keys slab) q)
        level_if true t = level_is prices keys slab q ∙ ap (λ (r : ℕ). level_by slab (map.value_at keys r)) (eqb-true q p t) ∙ ap (level_by slab) e
        level_if false t = refl

  pub price-kept : (prices prices' : set.Prices) (keys keys' : List (List (Option ℕ))) (slab slab' : Slab (Priced L)) → ((q : ℕ) → set.HasRoom prices q → set.HasRoom prices' q) → ((q : ℕ) → map.HasValueRoom keys q → map.HasValueRoom keys' q)
      → (q : ℕ) → HasPrice (view prices keys slab) q → HasPrice (view prices' keys' slab') q
  unfolding HasPrice
  price-kept prices prices' keys keys' slab slab' ps ks q r = (ps q r.0, ks q r.1)

  pub price-parts : (prices : set.Prices) (keys : List (List (Option ℕ))) (slab : Slab (Priced L)) (p : ℕ) → HasPrice (view prices keys slab) p → set.HasRoom prices p × map.HasValueRoom keys p
  unfolding HasPrice
  price-parts prices keys slab p r = r

  pub room-is : (prices : set.Prices) (keys : List (List (Option ℕ))) (slab : Slab (Priced L)) (n : ℕ) → HasLevelRoom (view prices keys slab) n → HasRoomFor slab n
  unfolding HasLevelRoom
  room-is prices keys slab n r = r

  pub room-from : (prices : set.Prices) (keys : List (List (Option ℕ))) (slab : Slab (Priced L)) (n : ℕ) → HasRoomFor slab n → HasLevelRoom (view prices keys slab) n
  unfolding HasLevelRoom
  room-from prices keys slab n r = r

  pub absent-at : (prices : set.Prices) (keys : List (List (Option ℕ))) (slab : Slab (Priced L)) (p : ℕ) → map.value_at keys p ≡ None → level_at (view prices keys slab) p ≡ None
  absent-at prices keys slab p e = level_is prices keys slab p ∙ ap (level_by slab) e

  pub no-level : (l : LevelsView L) (p : ℕ) → level_at l p ≡ None → IsSome (level_at l p) → ⊥
  no-level l p e = none_if (level_at l p) e
    where
      none_if : (o : Option L) → o ≡ None → IsSome o → ⊥
      none_if None e s = search rules
      none_if (Some x) e s = cc

  pub price-from : (prices : set.Prices) (keys : List (List (Option ℕ))) (slab : Slab (Priced L)) (p : ℕ) → set.HasRoom prices p → map.HasValueRoom keys p → HasPrice (view prices keys slab) p
  unfolding HasPrice
  price-from prices keys slab p r s = (r, s)

  pub grown-room : (prices prices' : set.Prices) (keys keys' : List (List (Option ℕ))) (slab new : Slab (Priced L)) → new.slots ≡ slab.slots → slab.capacity ≤ new.capacity → (n : ℕ) → HasLevelRoom (view prices keys slab) n → HasLevelRoom (view prices' keys' new) n
  unfolding HasLevelRoom
  grown-room prices prices' keys keys' slab new slots more n r = omega (arith, r, more, ap (count_by is_some) slots)

  pub level-at : (prices : set.Prices) (keys : List (List (Option ℕ))) (slab : Slab (Priced L)) (p k : ℕ) (x : Priced L) → map.value_at keys p ≡ Some k → get slab k ≡ Some x → level_at (view prices keys slab) p ≡ Some x.level
  level-at prices keys slab p k x e f = level_is prices keys slab p ∙ ap (level_by slab) e ∙ ap (option_map (λ (y : Priced L). y.level)) f

  pub level-nowhere : (prices : set.Prices) (keys : List (List (Option ℕ))) (slab : Slab (Priced L)) → ((p : ℕ) → map.value_at keys p ≡ None) → (p : ℕ) → level_at (view prices keys slab) p ≡ None
  level-nowhere prices keys slab none p = absent-at prices keys slab p (none p)

  pub empty-lies : (prices : set.Prices) (keys : List (List (Option ℕ))) (slab : Slab (Priced L)) → ((p : ℕ) → set.has prices p ≡ false) → ((p : ℕ) → map.value_at keys p ≡ None) → IsLaidOut prices keys slab
  empty-lies prices keys slab unmarked none = record { marked = λ p. unmarked p ∙ sym (ap is_some (none p)); lies = λ p k e. absurd (some_none (sym e ∙ none p)) }
