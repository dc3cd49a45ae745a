use Rattle.std.proofs.Common.{◌≡◌, ◌∷◌, ℕ, List, length, drop, subst}
use Rattle.std.proofs.lemmas.Result.{err_from_is_err_and}
use Rattle.rb_lines.proofs.Meeting.{refusal_met}
use Rattle.rb_accept.specs.Accepting.{IsRefused}
use Rattle.rb_accept.specs.Opening.{Opens, ReadsImage}
use Rattle.rb_accept.specs.Reading.{IsUnread, file_limit, image_limit, source_of, whole}
use Rattle.rb_accept.specs.View.{IsAcceptance}
use Rattle.rb_accept.proofs.Accepted.{is_accepted}
use Rattle.rb_accept.proofs.OpeningLaws.{both_added, both_in_turn, file_refused, file_unread, image_refused, one_of_two}
use Rattle.rb_accept.proofs.opening.open_image.Goals as goal

-- FILE was not read

pub returns-in_err-bytes-clause-read : goal.returns-in_err-bytes-clause-read
returns-in_err-bytes-clause-read g c =
    let source = source_of g.S.Source.tells g.S.Source.held g.S.Source.readings g.S.Source.faults c.args.src.now c.read_within.new.src in
    one_of_two source c.args.file.now c.args.image.now file_limit image_limit c.read_within.ensures.read

pub returns-in_err-bytes-clause-refused : goal.returns-in_err-bytes-clause-refused
returns-in_err-bytes-clause-refused g c =
    let readings = drop (length (g.S.Source.readings c.args.src.now)) (g.S.Source.readings c.read_within.new.src) in
    let file = c.args.file.now in
    let image = c.args.image.now in
    let p = err_from_is_err_and c.from_residual.result c.from_residual.ensures.1 in
    rw (p.1, p.2) (refusal_met (λ due. IsUnread file file_limit readings due) (λ due. Opens file image (λ q i d. ⊥) readings due)
    (λ due h. file_unread file image readings due h) _ c.in_err-bytes.ensures.refused)

-- FILE was refused

pub returns-in_err-accepted-clause-read : goal.returns-in_err-accepted-clause-read
returns-in_err-accepted-clause-read g c =
    let source = source_of g.S.Source.tells g.S.Source.held g.S.Source.readings g.S.Source.faults c.args.src.now c.read_within.new.src in
    one_of_two source c.args.file.now c.args.image.now file_limit image_limit c.read_within.ensures.read

pub returns-in_err-accepted-clause-refused : goal.returns-in_err-accepted-clause-refused
returns-in_err-accepted-clause-refused g c =
    let readings = drop (length (g.S.Source.readings c.args.src.now)) (g.S.Source.readings c.read_within.new.src) in
    let file = c.args.file.now in
    let image = c.args.image.now in
    let bytes = c.in_ok-bytes.bytes in
    let p = err_from_is_err_and c.from_residual-in_err-accepted.result c.from_residual-in_err-accepted.ensures.1 in
    rw (p.1, p.2) (refusal_met (λ due. IsRefused c.as_slice.result.now due) (λ due. Opens file image (λ q i d. ⊥) readings due)
    (λ due h. file_refused file image readings bytes c.in_ok-bytes.ensures.given c.in_ok-bytes.ensures.within due
    (subst (λ (bs : List ℕ). IsRefused bs due) c.as_slice.ensures h)) _ c.in_err-accepted.ensures.refused)

-- IMAGE was not read, or was none

pub returns-in_err-image-clause-read : goal.returns-in_err-image-clause-read
returns-in_err-image-clause-read g c =
    let same = c.read_within.ensures.same in
    both_in_turn (g.S.Source.tells c.args.src.now) (g.S.Source.tells c.read_within.new.src) (g.S.Source.held c.args.src.now) (g.S.Source.held c.read_within.new.src)
    (g.S.Source.readings c.args.src.now) (g.S.Source.readings c.read_within.new.src) (g.S.Source.readings c.read_image_file.new.src)
    (g.S.Source.faults c.args.src.now) (g.S.Source.faults c.read_within.new.src) (g.S.Source.faults c.read_image_file.new.src)
    same.tells_the_same same.holds_the_same c.read_within.ensures.later c.read_image_file.ensures.later c.args.file.now c.args.image.now file_limit image_limit
    (whole c.args.file.now c.in_ok-bytes.bytes) c.in_ok-bytes.ensures.given c.read_within.ensures.read c.read_image_file.ensures.read

pub returns-in_err-image-clause-refused : goal.returns-in_err-image-clause-refused
returns-in_err-image-clause-refused g c =
    let file = c.args.file.now in
    let image = c.args.image.now in
    let bytes = c.in_ok-bytes.bytes in
    let a = c.in_ok-accepted.accepted in
    let same = c.read_within.ensures.same in
    let readings = drop (length (g.S.Source.readings c.args.src.now)) (g.S.Source.readings c.read_image_file.new.src) in
    let more = drop (length (g.S.Source.readings c.read_within.new.src)) (g.S.Source.readings c.read_image_file.new.src) in
    let acceptance : IsAcceptance bytes a = subst (λ (bs : List ℕ). IsAcceptance bs a) c.as_slice.ensures c.in_ok-accepted.ensures.accepted in
    let is : readings ≡ whole file bytes ∷ more =
    both_added (g.S.Source.tells c.args.src.now) (g.S.Source.tells c.read_within.new.src) (g.S.Source.held c.args.src.now) (g.S.Source.held c.read_within.new.src)
    (g.S.Source.readings c.args.src.now) (g.S.Source.readings c.read_within.new.src) (g.S.Source.readings c.read_image_file.new.src)
    (g.S.Source.faults c.args.src.now) (g.S.Source.faults c.read_within.new.src) (g.S.Source.faults c.read_image_file.new.src)
    same.tells_the_same same.holds_the_same c.read_within.ensures.later c.read_image_file.ensures.later file image file_limit image_limit
    (whole file bytes) c.in_ok-bytes.ensures.given c.read_within.ensures.read c.read_image_file.ensures.read in
    let p = err_from_is_err_and c.from_residual-in_err-image.result c.from_residual-in_err-image.ensures.1 in
    rw (p.1, p.2) (refusal_met (λ due. ReadsImage image (λ i d. ⊥) more due) (λ due. Opens file image (λ q i d. ⊥) readings due)
    (λ due h. image_refused file image readings bytes more is c.in_ok-bytes.ensures.within a.agreed.covered.program (is_accepted bytes a acceptance) due h)
    _ c.in_err-image.ensures.refused)

-- Both were read

pub returns-clause-read : goal.returns-clause-read
returns-clause-read g c =
    let same = c.read_within.ensures.same in
    both_in_turn (g.S.Source.tells c.args.src.now) (g.S.Source.tells c.read_within.new.src) (g.S.Source.held c.args.src.now) (g.S.Source.held c.read_within.new.src)
    (g.S.Source.readings c.args.src.now) (g.S.Source.readings c.read_within.new.src) (g.S.Source.readings c.read_image_file.new.src)
    (g.S.Source.faults c.args.src.now) (g.S.Source.faults c.read_within.new.src) (g.S.Source.faults c.read_image_file.new.src)
    same.tells_the_same same.holds_the_same c.read_within.ensures.later c.read_image_file.ensures.later c.args.file.now c.args.image.now file_limit image_limit
    (whole c.args.file.now c.in_ok-bytes.bytes) c.in_ok-bytes.ensures.given c.read_within.ensures.read c.read_image_file.ensures.read

pub returns-clause-opened : goal.returns-clause-opened
returns-clause-opened g c =
    let file = c.args.file.now in
    let image = c.args.image.now in
    let bytes = c.in_ok-bytes.bytes in
    let a = c.in_ok-accepted.accepted in
    let same = c.read_within.ensures.same in
    record {
      bytes = bytes;
      later = drop (length (g.S.Source.readings c.read_within.new.src)) (g.S.Source.readings c.read_image_file.new.src);
      is = both_added (g.S.Source.tells c.args.src.now) (g.S.Source.tells c.read_within.new.src) (g.S.Source.held c.args.src.now) (g.S.Source.held c.read_within.new.src)
          (g.S.Source.readings c.args.src.now) (g.S.Source.readings c.read_within.new.src) (g.S.Source.readings c.read_image_file.new.src)
          (g.S.Source.faults c.args.src.now) (g.S.Source.faults c.read_within.new.src) (g.S.Source.faults c.read_image_file.new.src)
          same.tells_the_same same.holds_the_same c.read_within.ensures.later c.read_image_file.ensures.later file image file_limit image_limit
          (whole file bytes) c.in_ok-bytes.ensures.given c.read_within.ensures.read c.read_image_file.ensures.read;
      short = c.in_ok-bytes.ensures.within;
      acceptance = subst (λ (bs : List ℕ). IsAcceptance bs a) c.as_slice.ensures c.in_ok-accepted.ensures.accepted;
      read = c.in_ok-image.ensures.opened;
    }
