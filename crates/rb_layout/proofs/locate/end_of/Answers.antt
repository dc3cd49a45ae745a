use Rattle.std.proofs.Common.{arith, None}
use Rattle.rb_layout.proofs.Locating.{none-past}
use Rattle.rb_layout.proofs.locate.end_of.Goals as goal

pub returns-then-loc-ge4294967296 : goal.returns-then-loc-ge4294967296
returns-then-loc-ge4294967296 c = let few = (c.requires.words None).few in none-past c.args.leaf.now c.args.loc.now (omega arith)
