-- What is due to an image that holds no value to be shown.
use Rattle.std.proofs.Common.{◌≡◌, ◌≢◌, List, inl, inr, subst, ap, ◌∙◌}
use Rattle.rb_core.specs.declared.program.Program.{Program}
use Rattle.rb_core.specs.declared.types.Ty.{Ty}
use Rattle.rb_image.specs.Reads.{IsReason}
use Rattle.rb_image.specs.Roots.{IsFirstImageFault}
use Rattle.rb_image_text.specs.declared.fault.ImageFault.{ImageFault}
use Rattle.rb_image_text.specs.declared.fault.ImageFault.TheVariants.{Memory}
use Rattle.rb_image_text.specs.declared.image.Image.{Image}
use Rattle.rb_layout.specs.Flattening.{flat_layouts}
use Rattle.rb_layout.specs.declared.layout.Layout.{Layout}
use Rattle.rb_lines.specs.Answer.{Due}
use Rattle.rb_lines.specs.ArgumentLines.{node_limit}
use Rattle.rb_lines.specs.ImageLines.{image_due}
use Rattle.ribbit_tool.specs.Value.{IsDueToImage, unsound, large}

pub refused_back : (p : Program) (layouts : List Layout) → layouts ≡ flat_layouts p → (ty : Ty) (image : Image) (fault : ImageFault)
    → IsReason p layouts image ty node_limit fault → fault ≢ Memory → (due : Due) → due ≡ image_due fault → IsDueToImage p ty image due
refused_back p layouts same ty image fault (inl first) other due e =
    unsound fault (subst (λ (ls : List Layout). IsFirstImageFault p.types ls image ty fault) same first) e
refused_back p layouts same ty image fault (inr (inl (is, v, held, more))) other due e = large v held more (e ∙ ap (λ (f : ImageFault). image_due f) is)
refused_back p layouts same ty image fault (inr (inr memory)) other due e = absurd (other memory)
