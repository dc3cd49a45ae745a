-- What reading an image answers, from what its steps answer.
use Rattle.std.proofs.Common.{◌≡◌, ℕ, List, Result, Ok, Err, sym, subst}
use Rattle.std.specs.Prelude.{IsErr}
use Rattle.std.specs.Result.{IsErrAnd}
use Rattle.std.proofs.lemmas.Bool.{false≢true}
use Rattle.rb_image_text.specs.Stopping.{IsTextOf}
use Rattle.rb_image_text.specs.Refusals.{IsThis}
use Rattle.rb_image_text.specs.inner.Reading.{IsImageReading}
use Rattle.rb_image_text.specs.declared.image.Image.{Image}
use Rattle.rb_image_text.specs.declared.fault.ImageFault.{ImageFault}
use Rattle.rb_image_text.specs.declared.fault.ImageFault.TheVariants as fault
use Rattle.rb_image_text.proofs.StopLemmas.{none_whole}

-- bytes that aren't read
pub unread_this : (bytes : List ℕ) (e : ImageFault) (i : Image) → IsImageReading bytes (Err e) → IsTextOf bytes i → IsThis i (Err e)
unread_this bytes (fault.ImageSyntax at) i r text = none_whole bytes at i r text
unread_this bytes (fault.ImageBlock n) i r text = r
unread_this bytes (fault.BadRoot n) i r text = r
unread_this bytes (fault.BadBits b p) i r text = r
unread_this bytes (fault.BadPointer b a) i r text = r
unread_this bytes fault.ImageTooLarge i r text = r
unread_this bytes (fault.NoSuchPart n) i r text = r
unread_this bytes fault.Memory i r text = tt

-- an error that is handed on
pub handed_on : (i : Image) (r : Result Image ImageFault) (e : ImageFault) → IsErr r → IsErrAnd r (λ x. x ≡ e) → IsThis i (Err e) → IsThis i r
handed_on i (Ok read) e is same h = absurd (false≢true is)
handed_on i (Err x) e is same h = subst (λ y. IsThis i (Err y)) (sym same) h
