-- What an order file gives that was read as a whole.
use Rattle.std.proofs.Common.{◌≡◌, ◌≢◌, ℕ, ◌≤◌, Bool, true, false, nat_lt, List, [], length, Option, None, Some, Result, IfSome, refl, subst, arith}
use Rattle.std.proofs.lemmas.Bool.Decides.{nat_tests}
use Rattle.std.specs.Bool.{OnFalse}
use Rattle.xm_files.specs.Batches.{rows_from, text_left}
use Rattle.xm_files.specs.FileFaults.{is_from_outside}
use Rattle.xm_files.specs.Names.{NameLists}
use Rattle.xm_files.specs.Orders.{orders_of}
use Rattle.xm_files.specs.declared.file_faults.FileCause.{FileCause}
use Rattle.xm_files.specs.declared.file_faults.FileCause.TheVariants as cause
use Rattle.xm_files.specs.declared.file_faults.FileFault.{FileFault}
use Rattle.xm_config.specs.declared.config.SegmentConfig.{SegmentConfig}
use Rattle.xm_config.specs.declared.rows.Row.{Row}

-- what the bytes of an order file give
pub orders-read : (names : NameLists) (config : SegmentConfig) (file : Option (List ℕ)) (read : List ℕ) (rows : Result (List Row) FileFault) → IfSome file (λ bytes. read ≡ bytes) → length read ≤ 16777216
    → rows_from names config (text_left read None 1) [] ≡ rows → IfSome file (λ bytes. orders_of names config bytes ≡ rows)
orders-read names config None read rows is short gives = tt
orders-read names config (Some bytes) read rows is short gives =
    let within : nat_lt 16777216 (length read) ≡ false = grind (arith, nat_tests) in
    subst (λ (bs : List ℕ). orders_of names config bs ≡ rows) is (rw within gives)

-- no part goes on that would have more rows than a file may have
pub no-more : (more : Bool) (count : ℕ) → (more ≡ true → 1000001 ≤ count) → count ≤ 1000000 → more ≡ false
no-more true count full few = let many = full refl in absurd (omega (arith, many, few))
no-more false count full few = refl

-- what holds of each fault but want of memory holds of those that the bytes decide
pub not-outside : (P : Type 0) (c : FileCause) → (c ≢ cause.OutOfMemory tt → P) → OnFalse (is_from_outside c) P
not-outside P cause.ReadFailed p = tt
not-outside P cause.TooLong p = p (λ e. cc)
not-outside P cause.Syntax p = p (λ e. cc)
not-outside P cause.MissingKey p = p (λ e. cc)
not-outside P cause.UnknownKey p = p (λ e. cc)
not-outside P cause.BadValue p = p (λ e. cc)
not-outside P cause.DuplicateName p = p (λ e. cc)
not-outside P cause.BadHeader p = p (λ e. cc)
not-outside P cause.BadField p = p (λ e. cc)
not-outside P cause.TooManyRows p = p (λ e. cc)
not-outside P (cause.OutOfMemory _) p = tt
