-- An expression that begins with the name of a variable or a function.
use Rattle.std.proofs.Common.{◌≡◌, ℕ, suc, ◌-◌, List, [], ◌∷◌, ◌≤◌, length, take, drop, get_or, sym, ◌∙◌, ap, arith}
use Rattle.rb_syntax.specs.declared.token.Placed.{Placed}
use Rattle.rb_syntax.specs.declared.token.Token.TheVariants as token
use Rattle.rb_syntax.specs.declared.tree.PatTree.{PatTree}
use Rattle.rb_syntax.specs.declared.tree.ExprTree.{ExprTree}
use Rattle.rb_syntax.specs.Tokens.{tokens}
use Rattle.rb_read.specs.inner.Combining.{Reader, into}
use Rattle.rb_read.specs.inner.Reading.{name_or_call, arguments, expression_from, expression_one}
use Rattle.rb_read.proofs.Loops.{tokens-length, tokens-rest}

pub lower-node : (inside : Reader PatTree) (inner : Reader ExprTree) (total at : ℕ) (ps : List Placed) (p : Placed) (name : List ℕ)
    → 1 ≤ length ps → p ≡ get_or ps 0 p → p.token ≡ token.Lower name → at ≡ total - length ps
    → expression_one inside inner total (tokens ps) ≡ into (λ o. name_or_call at name o) (arguments inner) (tokens (take (length ps - 1) (drop 1 ps)))
unfolding expression_one expression_from
lower-node inside inner total at [] p name some first is numbered = absurd (omega arith)
lower-node inside inner total at (q ∷ qs) p name some first is numbered =
    let h : q.token ≡ token.Lower name = ap (λ x. x.token) (sym first) ∙ is in
    let k : total - suc (length (tokens qs)) ≡ at = ap (λ n. total - n) (sym (tokens-length (q ∷ qs))) ∙ sym numbered in
    ap (λ t. expression_from inside inner total (total - suc (length (tokens qs))) t (tokens qs)) h
    ∙ ap (λ a. into (λ o. name_or_call a name o) (arguments inner) (tokens qs)) k
    ∙ ap (λ us. into (λ o. name_or_call at name o) (arguments inner) us) (sym (tokens-rest (q ∷ qs)))
