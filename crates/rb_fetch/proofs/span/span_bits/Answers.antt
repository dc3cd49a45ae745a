use Rattle.std.proofs.Common.{sym, ◌∙◌}
use Rattle.rb_fetch.proofs.Locations.{all_read, bits_read}
use Rattle.rb_fetch.proofs.span.span_bits.Goals as goal

pub returns-then-is_all : goal.returns-then-is_all
returns-then-is_all c = all_read c.args.span (sym c.is_all.ensures ∙ c.if-is_all.true)

pub returns : goal.returns
returns c = rw (c.in_ok-new.ensures, c.bits.ensures, c.bits-2.ensures) (bits_read c.args.span)
