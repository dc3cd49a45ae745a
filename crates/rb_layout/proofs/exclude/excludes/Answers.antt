use Rattle.std.proofs.Common.{◌≡◌, Some, sym, ◌∙◌}
use Rattle.rb_layout.specs.Words.{flat_at}
use Rattle.rb_layout.proofs.Ends.{found-at}
use Rattle.rb_layout.proofs.Excluding.{excluded-at, iff_ok}
use Rattle.rb_layout.proofs.exclude.excludes.Goals as goal

pub returns-in-None-flat_at : goal.returns-in-None-flat_at
returns-in-None-flat_at c =
    let found = found-at c.args.leaf.now c.args.loc.now c.in-Some.end c.requires c.in-Some.ensures in
    let none = c.in-None-flat_at.ensures ∙ found.is_word in absurd cc

pub is_barred-requires : goal.is_barred-requires
is_barred-requires c = (found-at c.args.leaf.now c.args.loc.now c.in-Some.end c.requires c.in-Some.ensures).range

pub returns : goal.returns
returns c =
    let found = found-at c.args.leaf.now c.args.loc.now c.in-Some.end c.requires c.in-Some.ensures in
    let is : flat_at c.args.leaf.now c.in-Some.end.at ≡ Some c.in-Some-flat_at.word.now = sym c.in-Some-flat_at.ensures in
    iff_ok c.is_barred.result (excluded-at c.args.types.now c.args.layouts.now c.args.leaf.now c.args.loc.now c.in-Some.end c.in-Some-flat_at.word.now c.args.literal found is) c.is_barred.ensures
