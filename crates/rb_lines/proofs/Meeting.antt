-- What meets a demand on what is due meets any that follows from it.
use Rattle.std.proofs.Common.{ℕ, arith, Result, Ok, Err, IfOk, IfErr}
use Rattle.std.specs.declared.vec.Vec.{Vec}
use Rattle.std.specs.declared.alloc.Global.{Global}
use Rattle.rb_lines.specs.Answer.{Due, printed}
use Rattle.rb_lines.specs.View.{due_of, due_after, IsRefusal, MeetsRefused, Meets}
use Rattle.rb_lines.specs.declared.refusal.Refusal.{Refusal}
use Rattle.rb_lines.specs.declared.refusal.Refusal.TheVariants.{Refused, Memory}

module _ (P Q : Due → Type 0) (follows : (due : Due) → P due → Q due) where
  pub refusal_met : (r : Refusal) → IsRefusal P r → IsRefusal Q r
  refusal_met (Refused c) h = follows (due_of c) h
  refusal_met Memory h = tt

  -- before anything ran
  pub refused_met : (steps : ℕ) (r : Refusal) → IsRefusal P r → MeetsRefused Q steps steps r
  refused_met steps (Refused c) h = (0, omega arith, follows (due_of c) h)
  refused_met steps Memory h = tt

  pub unrun_met : (steps : ℕ) (r : Result (Vec ℕ Global) Refusal) → IfOk r (λ text. P (printed text.items 0)) → IfErr r (IsRefusal P) → Meets Q steps steps r
  unrun_met steps (Ok text) h k = (0, omega arith, follows (printed text.items 0) h)
  unrun_met steps (Err r) h k = refused_met steps r k

  pub met : (before now : ℕ) (r : Result (Vec ℕ Global) Refusal) → Meets P before now r → Meets Q before now r
  met before now (Ok text) h = (h.0, h.1, follows (printed text.items h.0) h.2)
  met before now (Err (Refused c)) h = (h.0, h.1, follows (due_after h.0 c) h.2)
  met before now (Err Memory) h = tt
