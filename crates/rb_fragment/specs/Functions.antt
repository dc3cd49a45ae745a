-- Functions of code for functions of the source, and all their calls.
use Rattle.std.specs.Prelude.{◌≡◌, ℕ, ◌+◌, ◌-◌, Bool, List, [], ◌∷◌, ◌++◌, length, replicate, Some, slice_get}
use Rattle.rb_core.specs.declared.value.Value.{Value}
use Rattle.rb_core.specs.declared.program.Param.{Param}
use Rattle.rb_core.specs.declared.program.Fun.{Fun}
use Rattle.rb_core.specs.Meaning.{Calls, body_outcome, call_of}
use Rattle.rb_bytes.specs.Memory.{Memory, IsGood}
use Rattle.rb_target.specs.declared.code.CodeFun.{CodeFun}
use Rattle.rb_target.specs.Laws.{Law}
use Rattle.rb_target.specs.Meaning.{World, Next, Callee, run_of}
use Rattle.rb_target.specs.Validity.{IsValidFun}
use Rattle.rb_fragment.specs.declared.held.Local.{Local}
use Rattle.rb_fragment.specs.Plan.{Plan, Reps, words_needed, words_needed_by, types_of}
use Rattle.rb_fragment.specs.Owing.{Does, GivesValue, CallsAgree}
use Rattle.rb_fragment.specs.Slots.{slots_from}

-- the parameters as variables in slots in a row from a on, each in as many as its type has words
abbrev pub param_locals : Plan → ℕ → List Param → List Local
param_locals plan a [] = []
param_locals plan a (p ∷ ps) =
    record { var = p.var; ty = p.ty; slots = slots_from a (words_needed plan p.ty) }
    ∷ param_locals plan (a + words_needed plan p.ty) ps

-- how many words a function's parameters have, in all
abbrev pub param_words : Plan → Fun → ℕ
param_words plan f = words_needed_by plan (types_of f)

-- the functions of the code have the words of the program's
abbrev pub HasShapes : Plan → List CodeFun → Type 0
HasShapes plan funs =
    (g : ℕ) (f : Fun) → slice_get plan.program.funs g ≡ Some f
    → (q : CodeFun) × (slice_get funs g ≡ Some q) × (q.results ≡ words_needed plan f.result)
    × (q.params ≡ param_words plan f)

-- The code q of function g: it is valid among functions of the right shapes, and does what the function
-- does, wherever the calls in both do alike.
pub record Compiles (plan : Plan) (g : ℕ) (f : Fun) (q : CodeFun) : Type 0 where
  pub name : q.name ≡ f.name
  pub params : q.params ≡ param_words plan f
  pub results : q.results ≡ words_needed plan f.result
  pub valid : (funs : List CodeFun) → HasShapes plan funs → IsValidFun funs q
  pub does : (calls : Calls) (callee : Callee) (next : Next) → Law q.body callee next → CallsAgree plan calls callee
      → (clean : Bool) (vs : List Value) (ws : List ℕ) (w : World) → IsGood w.memory
      → Reps plan w.memory clean (types_of f) vs ws
      → Does plan w.switches (next 0 (ws ++ replicate (q.slots - length ws) 0) w) w.memory
      (body_outcome plan.program calls (Some f) g w.left vs)
      (GivesValue plan clean f.result (next 0 (ws ++ replicate (q.slots - length ws) 0) w))

-- each function of the program has code with its number that does what it does
abbrev pub AllCompile : Plan → List CodeFun → Type 0
AllCompile plan funs =
    (g : ℕ) (f : Fun) → slice_get plan.program.funs g ≡ Some f → (q : CodeFun) × (slice_get funs g ≡ Some q)
    × Compiles plan g f q

-- Every run does what the source's call does: for all functions, represented arguments, good memories and
-- numbers of calls, cleanly where the arguments are clean.
abbrev pub RunsDo : Plan → List CodeFun → Type 0
RunsDo plan funs =
    (clean : Bool) (g : ℕ) (f : Fun) (vs : List Value) (ws : List ℕ) (n : ℕ) (m : Memory)
    → slice_get plan.program.funs g ≡ Some f → IsGood m
    → Reps plan m clean (types_of f) vs ws
    → Does plan 0 (run_of funs n g ws m) m (call_of plan.program g n vs)
    (GivesValue plan clean f.result (run_of funs n g ws m))
