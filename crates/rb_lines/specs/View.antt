-- Refusals, and texts or refusals, as demands on what is due see them. What is due to a command is the text that it
-- prints, or the status and the line by which it is refused, with how many instructions it began, the steps.
use Rattle.std.specs.Prelude.{◌≡◌, ℕ, ◌+◌, Result, Ok, Err}
use Rattle.std.specs.declared.vec.Vec.{Vec}
use Rattle.std.specs.declared.alloc.Global.{Global}
use Rattle.rb_lines.specs.Answer.{Due, printed, refused}
use Rattle.rb_lines.specs.declared.refusal.Refused.{Refused}
use Rattle.rb_lines.specs.declared.refusal.Refusal.{Refusal}
use Rattle.rb_lines.specs.declared.refusal.Refusal.TheVariants as refusal

-- what is due by a refusal after so many steps of a run
abbrev pub due_after : ℕ → Refused → Due
due_after steps c = refused c.status c.line.items steps

-- what is due by a refusal before anything ran
abbrev pub due_of : Refused → Due
due_of c = due_after 0 c

-- a refusal before anything ran meets a demand on what is due, or it is want of memory
abbrev pub IsRefusal : (Due → Type 0) → Refusal → Type 0
IsRefusal P (refusal.Refused c) = P (due_of c)
IsRefusal P refusal.Memory = Unit {0}

-- a refusal meets a demand on what is due with the steps counted between `before` and `now`, or it is want of memory
abbrev pub MeetsRefused : (Due → Type 0) → ℕ → ℕ → Refusal → Type 0
MeetsRefused P before now (refusal.Refused c) = (n : ℕ) × (now ≡ before + n) × P (due_after n c)
MeetsRefused P before now refusal.Memory = Unit {0}

-- what is printed or refused meets a demand on what is due with the steps counted between `before` and `now`, or
-- it is want of memory
abbrev pub Meets : (Due → Type 0) → ℕ → ℕ → Result (Vec ℕ Global) Refusal → Type 0
Meets P before now (Ok text) = (n : ℕ) × (now ≡ before + n) × P (printed text.items n)
Meets P before now (Err r) = MeetsRefused P before now r
