-- A line of words grows at its end.
use Rattle.std.proofs.Common.{◌≡◌, ℕ, ◌+◌, ◌<◌, List, [], ◌∷◌, ◌++◌, length, take, get_or, sym, ap, ◌∙◌, append_assoc, append-nil}
use Rattle.std.proofs.lemmas.List.{take_more}
use Rattle.std.specs.Fmt.{decimal}
use Rattle.rb_lines.specs.Lines.{numbers_after_blanks}

spaced-push : (ns : List ℕ) (n : ℕ) → numbers_after_blanks (ns ++ n ∷ []) ≡ numbers_after_blanks ns ++ 32 ∷ decimal n
spaced-push [] n = ap (λ t. 32 ∷ t) (append-nil (decimal n))
spaced-push (x ∷ ns) n = ap (λ t. 32 ∷ decimal x ++ t) (spaced-push ns n) ∙ sym (append_assoc (32 ∷ decimal x) (numbers_after_blanks ns) (32 ∷ decimal n))

pub spaced_more : (ns : List ℕ) (k d : ℕ) → k < length ns → numbers_after_blanks (take (k + 1) ns) ≡ numbers_after_blanks (take k ns) ++ 32 ∷ decimal (get_or ns k d)
spaced_more ns k d lt = ap numbers_after_blanks (take_more ns k d lt) ∙ spaced-push (take k ns) (get_or ns k d)
