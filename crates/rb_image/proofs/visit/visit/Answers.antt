use Rattle.std.proofs.Common.{sym, ap, ◌∙◌, arith}
use Rattle.std.specs.Option.{option_copied}
use Rattle.rb_image.proofs.VisitLemmas.{span_among}
use Rattle.rb_image.proofs.visit.visit.Goals as goal

pub returns-in_err-words-clause-most : goal.returns-in_err-words-clause-most
returns-in_err-words-clause-most g c =
    let is = sym c.get.ensures.value ∙ ap option_copied c.in-Some.is in
    let among = span_among c.args.layout.now.leaves c.in_ok-number.number c.in-Some.leaf.now is in
    let rooted = c.requires.tidy.rooted c.in_ok-number.number c.in-Some.leaf.now is in
    let splits = c.read_leaf.ensures.most in
    let words = c.read_words.ensures.most in
    omega (arith, among, rooted, splits, words)

pub returns-clause-most : goal.returns-clause-most
returns-clause-most g c =
    let is = sym c.get.ensures.value ∙ ap option_copied c.in-Some.is in
    let among = span_among c.args.layout.now.leaves c.in_ok-number.number c.in-Some.leaf.now is in
    let rooted = c.requires.tidy.rooted c.in_ok-number.number c.in-Some.leaf.now is in
    let splits = c.read_leaf.ensures.most in
    let words = c.read_words.ensures.most in
    omega (arith, among, rooted, splits, words)
