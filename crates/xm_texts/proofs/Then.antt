-- What holds where a call succeeds.
use Rattle.std.proofs.Common.{◌≡◌, false, is_err, IfOk, OnOk, Result, Ok, Err}

pub ok-then : {A E P Q : Type 0} (r : Result A E) → OnOk r P → (P → Q) → OnOk r Q
ok-then (Ok x) p then = then p
ok-then (Err e) p then = tt

pub always-ok : {A E P : Type 0} (r : Result A E) → P → OnOk r P
always-ok (Ok x) p = p
always-ok (Err e) p = tt

pub ok-both : {A E P Q R : Type 0} (r : Result A E) → OnOk r P → OnOk r Q → (P → Q → R) → OnOk r R
ok-both (Ok x) p q then = then p q
ok-both (Err e) p q then = tt

pub ok-where : {A E P : Type 0} (r : Result A E) → OnOk r P → is_err r ≡ false → P
ok-where (Ok x) p fine = p
ok-where (Err e) p fine = absurd (cc)

pub if_ok-then : {A E : Type 0} {P Q : A → Type 0} (r : Result A E) → IfOk r P → ((x : A) → P x → Q x) → IfOk r Q
if_ok-then (Ok x) p then = then x p
if_ok-then (Err e) p then = tt

pub if_ok-both : {A E Q : Type 0} {P R : A → Type 0} (r : Result A E) → IfOk r P → OnOk r Q → ((x : A) → P x → Q → R x) → IfOk r R
if_ok-both (Ok x) p q then = then x p q
if_ok-both (Err e) p q then = tt
