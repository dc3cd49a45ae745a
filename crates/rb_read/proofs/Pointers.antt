-- A word or the words of a field, by what stands behind `->` in its parts.
use Rattle.std.proofs.Common.{◌≡◌, ℕ, zero, suc, List, Result, refl, sym, subst}
use denote.Ref.{Bor}
use Rattle.rb_core.specs.declared.layout_decl.LayItem.{LayItem}
use Rattle.rb_syntax.specs.declared.token.Placed.{Placed}
use Rattle.rb_syntax.specs.declared.token.Token.{Token}
use Rattle.rb_syntax.specs.Tokens.{tokens}
use Rattle.rb_read.specs.declared.stop.Stop.{Stop}
use Rattle.rb_read.specs.inner.Gives.{Gives}
use Rattle.rb_read.specs.inner.Reading.{lay_item_tree, item_one, pointer_tree}

pub item-one : (n : ℕ) (ts : List Token) → lay_item_tree n ts ≡ item_one (λ us. pointer_tree n us) ts
unfolding lay_item_tree pointer_tree
item-one zero ts = refl
item-one (suc n) ts = refl

pub gives-item : (r : Result (LayItem × Bor (List Placed)) Stop) (n : ℕ) (ts : List Token)
    → Gives (λ x. (x.0, tokens x.1.now)) r (item_one (λ us. pointer_tree n us) ts) → Gives (λ x. (x.0, tokens x.1.now)) r (lay_item_tree n ts)
gives-item r n ts h = subst (λ q. Gives (λ x. (x.0, tokens x.1.now)) r q) (sym (item-one n ts)) h
