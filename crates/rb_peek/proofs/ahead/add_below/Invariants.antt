use Rattle.std.proofs.Common.{◌≡◌, ◌++◌, drop}
use Rattle.std.specs.List.{flat_map}
use Rattle.rb_image.specs.Orders.{spots_of}
use Rattle.rb_peek.specs.Paths.{word_below, words_below}
use Rattle.rb_peek.proofs.ahead.add_below.Given as goal

-- the words so far and those of the parts that are left are all
abbrev pub invariant-loop-spot : goal.invariant-loop-spot
invariant-loop-spot l =
    let ws = l.words.root.items in
    let ats = l.words.addresses.items in
    l.found.items ++ flat_map (word_below l.image.blocks l.leaf ws ats l.path) (spots_of (drop l.spot-index l.spot-items))
    ≡ l.initial.found.items ++ words_below l.image.blocks l.leaf ws ats l.path
