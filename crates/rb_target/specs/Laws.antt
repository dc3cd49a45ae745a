-- What every run of valid code can rest on.
--
-- `next` is what goes on in a body from the number of an instruction, the slots and the world, and `callee` is what a
-- call does; each goes up to its end. A depth says how deep calls are nested at most.
use Rattle.std.specs.Prelude.{◌≡◌, ℕ, ◌≤◌, List, Some, slice_get}
use Rattle.rb_target.specs.Meaning.{World, CallEnd, Next, Callee, act, taken, from, enter, body_of, after_call}
use Rattle.rb_target.specs.declared.outcome.End.{End}
use Rattle.rb_target.specs.declared.outcome.End.TheVariants.{Returned}
use Rattle.rb_target.specs.declared.instr.Instr.{Instr}
use Rattle.rb_target.specs.declared.code.CodeFun.{CodeFun}

-- `next` goes through the body `code`, and `callee` does its calls: to go on from the number of an instruction is to
-- begin that instruction, and then to go on by `next` from where it leads. Numbers without an instruction are left
-- open.
pub record Law (code : List Instr) (callee : Callee) (next : Next) : Type 0 where
  pub step : (pc : ℕ) (i : Instr) (slots : List ℕ) (w : World) → slice_get code pc ≡ Some i
      → next pc slots w ≡ act i next callee pc slots (taken w)

-- an end of a call that ends those that wait for it, too: all but a return
abbrev pub IsFinal : End → Type 0
IsFinal (Returned words calls_left) = ⊥
IsFinal e = Unit {0}

-- what holds of each run of these functions
pub record IsLawful (funs : List CodeFun) : Type 0 where
  -- each body is gone through instruction by instruction, whatever does its calls
  pub unrolls : (f : ℕ) (callee : Callee) → Law (body_of funs f) callee (from (body_of funs f) callee)
  -- calls can't nest deeper than the calls that are left, so any two depths that large give the same
  pub deep : (d e f : ℕ) (words : List ℕ) (w : World) → w.left ≤ d → w.left ≤ e
      → enter funs d f words w ≡ enter funs e f words w
  -- where a call ended so that the calls which wait for it end, too, its outcome is theirs, whatever would go on
  pub final : (o : CallEnd) (go : List ℕ → CallEnd) → IsFinal o.ended → after_call o.ended o.world go ≡ o
  -- after a call no more calls are left than before it
  pub falls : (d f : ℕ) (words : List ℕ) (w : World) → (enter funs d f words w).world.left ≤ w.left
