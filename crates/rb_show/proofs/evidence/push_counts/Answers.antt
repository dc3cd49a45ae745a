use Rattle.std.proofs.Common.{◌≡◌, ◌++◌, ℕ, List, ap, ◌∙◌, append_assoc}
use Rattle.std.specs.Fmt.{decimal}
use Rattle.std.specs.Prelude.{codes}
use Rattle.rb_show.proofs.evidence.push_counts.Goals as goal

pub returns : goal.returns
returns c =
    let old = c.args.text.now.items in
    let number = codes "wanted " ++ decimal c.args.wanted in
    let words = number ++ codes " words, found " in
    let first : c.push_number.new.text.items ≡ old ++ number =
    c.in_ok-push_number.ensures.ok ∙ ap (λ (l : List ℕ). l ++ decimal c.args.wanted) c.in_ok-push.ensures.ok ∙ append_assoc old (codes "wanted ") (decimal c.args.wanted) in
    let second : c.push-2.new.text.items ≡ old ++ words =
    c.in_ok-push-2.ensures.ok ∙ ap (λ (l : List ℕ). l ++ codes " words, found ") first ∙ append_assoc old number (codes " words, found ") in
    c.in_ok-push_number-2.ensures.ok ∙ ap (λ (l : List ℕ). l ++ decimal c.args.found) second ∙ append_assoc old words (decimal c.args.found)
