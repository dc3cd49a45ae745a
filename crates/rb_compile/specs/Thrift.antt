-- When code does few switches. A plan has a program with its layouts, and says how many switches each match may cost.
-- A log is what the source does in a call: its constructions and its matches, in order. A leaf is one of the forms in
-- which a layout stores the values of a data type; a construction chooses one of them.
use Rattle.std.specs.Prelude.{◌≤◌, List}
use Rattle.rb_core.specs.Meaning.{call_of}
use Rattle.rb_target.specs.declared.code.CodeFun.{CodeFun}
use Rattle.rb_target.specs.Meaning.{run_of}
use Rattle.rb_fragment.specs.Plan.{Plan, cost_of}
use Rattle.rb_compile.specs.Refining.{EachCall}

-- each run does at most as many switches as its log may cost: the bound of each match that it does, and
-- the choice of a leaf for each construction
abbrev pub IsThrifty : Plan → List CodeFun → Type 0
IsThrifty plan code =
    EachCall plan (λ g f clean vs ws m n.
    (run_of code n g ws m).world.switches ≤ cost_of plan (call_of plan.program g n vs).log)
