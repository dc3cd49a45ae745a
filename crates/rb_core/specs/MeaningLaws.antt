-- Laws of the source meaning, over all programs. A call of function g with n calls left and the arguments vs
-- has an outcome: a log of events, and an end, which is done or spent.
use Rattle.std.specs.Prelude.{◌≡◌, ℕ, suc, ◌+◌, List, slice_get}
use Rattle.rb_core.specs.declared.value.Value.{Value}
use Rattle.rb_core.specs.declared.program.Program.{Program}
use Rattle.rb_core.specs.Meaning.{body_outcome, call_of}
use Rattle.rb_core.specs.Outcomes.{ExtendsOutcome}

-- with n + 1 calls left, a call of a function does what the function's body does with n left, where each call
-- in the body does what a call of the program does; where the program has no function g, the call is done with
-- 0 and n calls left
abbrev pub CallsRunBodies : Type 0
CallsRunBodies = (p : Program) (g n : ℕ) (vs : List Value)
    → call_of p g (suc n) vs ≡ body_outcome p (call_of p) (slice_get p.funs g) g n vs

-- a call with `more` more calls left goes on where the same call with fewer ends: if that is done, both have
-- the same log and the same value, and `more` more calls are left; if that is spent, its log is the beginning
-- of the longer log
abbrev pub MoreCallsGoOn : Type 0
MoreCallsGoOn =
    (p : Program) (g n more : ℕ) (vs : List Value)
    → ExtendsOutcome more (call_of p g n vs) (call_of p g (n + more) vs)
