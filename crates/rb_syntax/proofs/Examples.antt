-- Worked examples, which the check computes.
use Rattle.std.proofs.Common.{◌≡◌, ℕ, List, [], ◌∷◌, codes, refl}
use Rattle.rb_core.specs.declared.expression.Op.TheVariants.{Add, Mul}
use Rattle.rb_syntax.specs.declared.token.Token.{Token}
use Rattle.rb_syntax.specs.declared.token.Token.TheVariants.{Lower, Num, Reserved, Uint, Symbol}
use Rattle.rb_syntax.specs.declared.token.ReservedWord.TheVariants as word
use Rattle.rb_syntax.specs.declared.token.Symbol.TheVariants as symbol
use Rattle.rb_syntax.specs.declared.tree.NameTree.{NameTree}
use Rattle.rb_syntax.specs.declared.tree.TyTree.TheVariants.{Int}
use Rattle.rb_syntax.specs.declared.tree.ExprTree.{ExprTree}
use Rattle.rb_syntax.specs.declared.tree.ExprTree as expr
use Rattle.rb_syntax.specs.declared.tree.ItemTree.TheVariants.{Funs}
use Rattle.rb_syntax.specs.declared.tree.FileTree.{FileTree}
use Rattle.rb_syntax.specs.Spelling.{spell, IsTreeOf}
use Rattle.rb_syntax.proofs.SpellingLemmas.{expr_rules}

abbrev named : ℕ → List ℕ → NameTree
named at text = record { at = at; text = text }

abbrev x_plus_three_y : ExprTree
x_plus_three_y = expr.Binary 14 Add (expr.Var 16 (named 16 (codes "x")))
    (expr.Binary 18 Mul (expr.Var 20 (named 20 (codes "y"))) (expr.Num 22 3))

-- fun main(x: u8, y: u8): u8 = add(x, mul(y, 3));
abbrev linear : FileTree
linear = record {
  items = Funs (record {
    name = named 1 (codes "main");
    params = record { at = 3; var = named 3 (codes "x"); ty = Int 8 } ∷ record { at = 7; var = named 7 (codes "y"); ty = Int 8 } ∷ [];
    result = Int 8;
    body = x_plus_three_y;
  }) ∷ [];
}

abbrev linear_tokens : List Token
linear_tokens = Reserved word.Fun ∷ Lower (codes "main") ∷ Symbol symbol.OpenParen ∷ Lower (codes "x") ∷ Symbol symbol.Colon
    ∷ Uint 8 ∷ Symbol symbol.Comma ∷ Lower (codes "y") ∷ Symbol symbol.Colon ∷ Uint 8 ∷ Symbol symbol.CloseParen
    ∷ Symbol symbol.Colon ∷ Uint 8 ∷ Symbol symbol.Equals ∷ Reserved word.Add ∷ Symbol symbol.OpenParen ∷ Lower (codes "x")
    ∷ Symbol symbol.Comma ∷ Reserved word.Mul ∷ Symbol symbol.OpenParen ∷ Lower (codes "y") ∷ Symbol symbol.Comma ∷ Num 3
    ∷ Symbol symbol.CloseParen ∷ Symbol symbol.CloseParen ∷ Symbol symbol.Semicolon ∷ []

linear-spelled : spell linear ≡ linear_tokens
linear-spelled = simp expr_rules

linear-numbered : IsTreeOf linear_tokens linear
linear-numbered = record {
  spells = linear-spelled;
  formed = simp expr_rules tt;
  numbered = simp expr_rules (refl, (refl, (refl, (refl, (refl, (refl, (refl, (refl, (refl, (refl, (refl, (refl, tt))))))))))));
}
