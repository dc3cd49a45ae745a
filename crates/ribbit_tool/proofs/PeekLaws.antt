-- What is due to an image and a path.
use Rattle.std.proofs.Common.{◌≡◌, ◌≢◌, ◌⊎◌, inl, inr, ℕ, List, Result, Ok, Err, IfOk, IfErr, subst}
use Rattle.std.specs.declared.alloc.Global.{Global}
use Rattle.std.specs.declared.vec.Vec.{Vec}
use Rattle.rb_core.specs.declared.program.Program.{Program}
use Rattle.rb_core.specs.declared.types.Ty.{Ty}
use Rattle.rb_peek.specs.Peeking.{IsPart, IsPartFault}
use Rattle.rb_peek.specs.declared.peek.Peeked.{Peeked}
use Rattle.rb_image_text.specs.declared.fault.ImageFault.{ImageFault}
use Rattle.rb_image_text.specs.declared.fault.ImageFault.TheVariants.{Memory}
use Rattle.rb_image_text.specs.declared.image.Image.{Image}
use Rattle.rb_layout.specs.Flattening.{flat_layouts}
use Rattle.rb_layout.specs.declared.layout.Layout.{Layout}
use Rattle.rb_lines.specs.Answer.{Due, printed}
use Rattle.rb_lines.specs.ImageLines.{image_due}
use Rattle.rb_lines.specs.View.{IsRefusal}
use Rattle.rb_lines.specs.declared.refusal.Refusal.{Refusal}
use Rattle.rb_lines.proofs.Meeting.{refusal_met}
use Rattle.ribbit_tool.specs.Peek.{Peeks, found, stopped, rooted_at}
use Rattle.ribbit_tool.specs.Value.{IsDueToImage}

module _ (p : Program) (layouts : List Layout) (flat : layouts ≡ flat_layouts p) (ty : Ty) (path : List ℕ) (image : Image) where
  -- what is due to a part that was found is due to the path
  module _ (part : Peeked) (is : IsPart p.types layouts image ty path part) where
    part_due : (due : Due) → IsDueToImage p part.ty (rooted_at image part) due → Peeks p ty path image due
    part_due due h = found part (subst (λ (ls : List Layout). IsPart p.types ls image ty path part) flat is) h

    pub part_shown : (r : Result (Vec ℕ Global) Refusal) → IfOk r (λ text. IsDueToImage p part.ty (rooted_at image part) (printed text.items 0))
        → IfOk r (λ text. Peeks p ty path image (printed text.items 0))
    part_shown (Ok text) h = part_due (printed text.items 0) h
    part_shown (Err e) h = tt

    pub part_refused : (r : Result (Vec ℕ Global) Refusal) → IfErr r (IsRefusal (IsDueToImage p part.ty (rooted_at image part)))
        → IfErr r (IsRefusal (Peeks p ty path image))
    part_refused (Ok text) h = tt
    part_refused (Err e) h = refusal_met (IsDueToImage p part.ty (rooted_at image part)) (Peeks p ty path image) part_due e h

  -- and so is a fault that is no want of memory
  pub path_refused : (fault : ImageFault) → IsPartFault p.types layouts image ty path fault ⊎ (fault ≡ Memory) → fault ≢ Memory
      → (due : Due) → due ≡ image_due fault → Peeks p ty path image due
  path_refused fault (inl is) other due e = stopped fault (subst (λ (ls : List Layout). IsPartFault p.types ls image ty path fault) flat is) e
  path_refused fault (inr memory) other due e = absurd (other memory)
