-- Counts of faults, and objects whose failing calls raise theirs by one.
use Rattle.std.proofs.Common.{◌≡◌, ℕ, ◌≤◌, false, Result, Ok, Err, OnOk, OnErr, IfOk, IsTrue, arith}
use Rattle.std.proofs.lemmas.Bool.{false≢true}
use Rattle.std.proofs.lemmas.Grind.{common_steps}
use Rattle.rb_edge.specs.Faults.{Rose, one_more}

pub one_more-later : (n : ℕ) → n ≤ one_more n
one_more-later n = grind (arith, common_steps)

pub one_more-rose : (n : ℕ) → Rose n (one_more n)
one_more-rose n = grind (arith, common_steps)

pub Rose-later : (before now after : ℕ) → Rose before now → now ≤ after → Rose before after
Rose-later before now after rose more = grind (arith, common_steps)

pub Rose-earlier : (first before now : ℕ) → first ≤ before → before ≤ now → Rose before now → Rose first now
Rose-earlier first before now less more rose = grind (arith, common_steps)

pub later : {A E : Type 0} (r : Result A E) (old new : ℕ) → OnOk r (new ≡ old) → OnErr r (new ≡ one_more old) → old ≤ new
later (Ok x) old new ok fault = omega arith
later (Err e) old new ok fault = rw fault (one_more-later old)

pub rose : {A E : Type 0} (r : Result A E) (old new : ℕ) → OnErr r (new ≡ one_more old) → OnErr r (Rose old new)
rose (Ok x) old new fault = tt
rose (Err e) old new fault = rw fault (one_more-rose old)

-- what always holds holds for each outcome
pub on_ok : {A E P : Type 0} (r : Result A E) → P → OnOk r P
on_ok (Ok x) p = p
on_ok (Err e) p = tt

pub on_err : {A E P : Type 0} (r : Result A E) → P → OnErr r P
on_err (Ok x) p = tt
on_err (Err e) p = p

pub if_ok : {A E : Type 0} (r : Result A E) (P : A → Type 0) → ((x : A) → P x) → IfOk r P
if_ok (Ok x) P p = p x
if_ok (Err e) P p = tt

-- an object that tells nothing promises nothing of bytes
pub untold : {P : Type 0} → IsTrue false → P
untold t = absurd (false≢true t)

-- a fact of each answer is one of the outcome
pub if_ok_on : {A E P : Type 0} (r : Result A E) (Q : A → Type 0) → ((x : A) → Q x → P) → IfOk r Q → OnOk r P
if_ok_on (Ok x) Q f q = f x q
if_ok_on (Err e) Q f q = tt
