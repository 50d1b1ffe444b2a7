-- What holds where a call was answered
use Rattle.std.proofs.Common.{Result, Ok, Err, IfOk, OnOk}

-- of two facts a third
pub on_ok_both : {T E P Q R : Type 0} (r : Result T E) → (P → Q → R) → OnOk r P → OnOk r Q → OnOk r R
on_ok_both (Ok value) f p q = f p q
on_ok_both (Err error) f p q = tt

-- and of two facts of the answer
pub if_ok_both : {T E : Type 0} (r : Result T E) (P Q R : T → Type 0) → ((value : T) → P value → Q value → R value) → IfOk r P → IfOk r Q → IfOk r R
if_ok_both (Ok value) P Q R f p q = f value p q
if_ok_both (Err error) P Q R f p q = tt

-- and of four
pub on_ok_four : {T E P Q R S U : Type 0} (r : Result T E) → (P → Q → R → S → U) → OnOk r P → OnOk r Q → OnOk r R → OnOk r S → OnOk r U
on_ok_four (Ok value) f p q r s = f p q r s
on_ok_four (Err error) f p q r s = tt
