-- The names of the orders and stops that a carry file lists for a security.
use Rattle.std.proofs.Common.{◌≡◌, ℕ, Bool, true, false, ◌&&◌, ◌||◌, ◌==◌, if◌then◌else◌, List, [], ◌∷◌, ◌++◌, map, Option, Some, is_some, refl, ap, ap₂, sym, ◌∙◌, arith}
use Rattle.std.specs.List.{list_any}
use Rattle.std.proofs.lemmas.Bool.Decides.{nat_tests}
use Rattle.xm_rules.specs.Entries.{Entries, is_same_name, names, order_name, stop_name}
use Rattle.xm_files.specs.Carry.{entry_name, one_more}
use Rattle.xm_files.specs.declared.listed.CarriedEntry.{CarriedEntry}
use Rattle.xm_files.specs.declared.listed.CarriedEntry.TheVariants as entry

later : (a b c : Bool) → (a || (b || c)) ≡ (b || (a || c))
later true true c = refl
later true false c = refl
later false b c = refl

-- one more in the middle, and one more at the end
any-middle : {X Y : Type 0} (p : Y → Bool) (f : X → Y) (xs : List X) (x : X) (ys : List Y) → list_any p (map f (xs ++ x ∷ []) ++ ys) ≡ (p (f x) || list_any p (map f xs ++ ys))
any-middle p f [] x ys = refl
any-middle p f (z ∷ xs) x ys = ap (λ (b : Bool). p (f z) || b) (any-middle p f xs x ys) ∙ later (p (f z)) (p (f x)) (list_any p (map f xs ++ ys))

any-last : {X Y : Type 0} (p : Y → Bool) (f : X → Y) (ys : List X) (y : X) → list_any p (map f (ys ++ y ∷ [])) ≡ (p (f y) || list_any p (map f ys))
any-last p f [] y = refl
any-last p f (z ∷ ys) y = ap (λ (b : Bool). p (f z) || b) (any-last p f ys y) ∙ later (p (f z)) (p (f y)) (list_any p (map f ys))

any-end : {X Y : Type 0} (p : Y → Bool) (f : X → Y) (xs : List Y) (ys : List X) (y : X) → list_any p (xs ++ map f (ys ++ y ∷ [])) ≡ (p (f y) || list_any p (xs ++ map f ys))
any-end p f [] ys y = any-last p f ys y
any-end p f (x ∷ xs) ys y = ap (λ (b : Bool). p x || b) (any-end p f xs ys y) ∙ later (p x) (p (f y)) (list_any p (xs ++ map f ys))

name-more : (name : ℕ × ℕ) (e : Entries) (more : CarriedEntry) → list_any (is_same_name name) (names (one_more e more)) ≡ (is_same_name name (entry_name more) || list_any (is_same_name name) (names e))
name-more name e (entry.Order o) = any-middle (is_same_name name) order_name e.orders o (map stop_name e.stops)
name-more name e (entry.Stop stop) = any-end (is_same_name name) stop_name (map order_name e.orders) e.stops stop

equal-either-way : (a b : ℕ) → (a == b) ≡ (b == a)
equal-either-way a b = grind (arith, nat_tests)

some-if : (t : Bool) (o : Option ℕ) → is_some (if t then Some 0 else o) ≡ (t || is_some o)
some-if true o = refl
some-if false o = refl

-- a name was taken for one entry more
pub taken-more : (new kept old : Option ℕ) (name : ℕ × ℕ) (m r : ℕ) (e more : Entries) (added : CarriedEntry) → new ≡ (if (m == name.0) && (r == name.1) then Some 0 else kept) → kept ≡ old → name ≡ entry_name added
    → is_some old ≡ list_any (is_same_name (m, r)) (names e) → more ≡ one_more e added → is_some new ≡ list_any (is_same_name (m, r)) (names more)
taken-more new kept old name m r e more added inserted reserved is before after =
    ap is_some inserted
    ∙ some-if ((m == name.0) && (r == name.1)) kept
    ∙ ap₂ (λ (a b : Bool). a || b)
    (ap₂ (λ (a b : Bool). a && b) (equal-either-way m name.0) (equal-either-way r name.1) ∙ ap (is_same_name (m, r)) is)
    (ap is_some reserved ∙ before)
    ∙ sym (name-more (m, r) e added)
    ∙ ap (λ (all : Entries). list_any (is_same_name (m, r)) (names all)) (sym after)
