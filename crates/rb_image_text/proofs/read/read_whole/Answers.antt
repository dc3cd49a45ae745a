use Rattle.std.proofs.Common.{◌≡◌, true, false, sym, ap}
use Rattle.rb_image_text.specs.inner.Reading.{is_done, image_of}
use Rattle.rb_image_text.proofs.StopLemmas.{stops_at_end, read_text, whole_only}
use Rattle.rb_image_text.proofs.read.read_whole.Goals as goal

pub returns-then-not-is_done-clause-reading : goal.returns-then-not-is_done-clause-reading
returns-then-not-is_done-clause-reading c =
    let p = c.in_ok-reader.reader in
    let undone : is_done p.spot ≡ false = cc (c.is_done.ensures, c.if-not-is_done.true) in
    stops_at_end c.args.bytes.now p c.in_ok-reader.ensures undone

pub returns-clause-reading : goal.returns-clause-reading
returns-clause-reading c =
    let p = c.in_ok-reader.reader in
    let done : is_done p.spot ≡ true = cc (c.is_done.ensures, c.if-not-is_done.false) in
    read_text c.args.bytes.now p c.in_ok-reader.ensures done

pub returns-clause-only : goal.returns-clause-only
returns-clause-only c i text = sym (ap image_of (whole_only c.args.bytes.now c.in_ok-reader.reader i c.in_ok-reader.ensures text))
