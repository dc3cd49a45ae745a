use Rattle.std.proofs.Common.{ℕ, List, length, drop, subst, IfOk, IfErr}
use Rattle.std.proofs.lemmas.Result.{err_from_is_err_and}
use Rattle.rb_image_text.specs.Places.{AreInPlace}
use Rattle.rb_image_text.specs.Stopping.{IsTextOf}
use Rattle.rb_lines.specs.View.{IsRefusal}
use Rattle.rb_lines.proofs.Meeting.{refusal_met}
use Rattle.rb_accept.specs.Opening.{IsGarbled, IsReadImage, ReadsImage}
use Rattle.rb_accept.specs.Reading.{IsUnread, image_limit, unread}
use Rattle.rb_accept.proofs.OpeningLaws.{both_ok, err_met, image_garbled}
use Rattle.rb_accept.proofs.opening.read_image_file.Goals as goal

pub returns-in_err-text-clause-refused : goal.returns-in_err-text-clause-refused
returns-in_err-text-clause-refused g c =
    let readings = drop (length (g.S.Source.readings c.args.src.now)) (g.S.Source.readings c.read_within.new.src) in
    let image = c.args.image.now in
    let p = err_from_is_err_and c.from_residual.result c.from_residual.ensures.1 in
    rw (p.1, p.2) (refusal_met (λ due. IsUnread image image_limit readings due) (λ due. ReadsImage image (λ i d. ⊥) readings due)
    (λ due h. unread h) _ c.in_err-text.ensures.refused)

pub returns-clause-opened : goal.returns-clause-opened
returns-clause-opened g c =
    let readings = drop (length (g.S.Source.readings c.args.src.now)) (g.S.Source.readings c.read_within.new.src) in
    let image = c.args.image.now in
    let text = c.in_ok-text.text in
    both_ok c.read_text.result (λ i. IsTextOf text i) (λ i. AreInPlace i.blocks) (λ i. IsReadImage image readings i)
    (subst (λ (bs : List ℕ). IfOk c.read_text.result (λ i. IsTextOf bs i)) c.as_slice.ensures c.read_text.ensures.spelled) c.read_text.ensures.placed
    (λ i spelled placed. record { text = text; is = c.in_ok-text.ensures.given; short = c.in_ok-text.ensures.within; spelled = spelled; placed = placed })

pub returns-clause-refused : goal.returns-clause-refused
returns-clause-refused g c =
    let readings = drop (length (g.S.Source.readings c.args.src.now)) (g.S.Source.readings c.read_within.new.src) in
    let image = c.args.image.now in
    let text = c.in_ok-text.text in
    err_met c.read_text.result (λ due. IsGarbled text due) (λ due. ReadsImage image (λ i d. ⊥) readings due)
    (λ due h. image_garbled image readings text c.in_ok-text.ensures.given c.in_ok-text.ensures.within due h)
    (subst (λ (bs : List ℕ). IfErr c.read_text.result (IsRefusal (IsGarbled bs))) c.as_slice.ensures c.read_text.ensures.refused)
