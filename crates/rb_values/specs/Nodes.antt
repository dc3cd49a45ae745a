-- Values by their nodes, one for each: a node is a number, or a construction of earlier nodes.
use Rattle.std.specs.Prelude.{◌≡◌, ℕ, List, [], ◌∷◌, ◌++◌, length, map, slice_index_or, flat_map}
use Rattle.rb_core.specs.declared.value.Value.{Value, Num, Con}
use Rattle.rb_core.specs.declared.value.Value.TheOpen as V
use Rattle.rb_core.specs.declared.value.Value.TheOpen.{Value-F}
use Rattle.rb_core.specs.declared.value.Value.TheFolds.{para-Value}
use Rattle.rb_core.specs.Values.{subs}
use Rattle.rb_values.specs.declared.nodes.Layer.{Layer}
use Rattle.rb_values.specs.declared.nodes.Layer.TheVariants as L

-- the value of node i, where `vs` are the values of the nodes; 0 where there is no such node
abbrev pub at : List Value → ℕ → Value
at vs i = slice_index_or vs i (Num 0)

-- the outermost level of a value: the value is this number, or this constructor's with so many subvalues
abbrev pub IsLayer : Value → Layer → Type 0
IsLayer v (L.Num n) = v ≡ Num n
IsLayer v (L.Con k count) = (v ≡ Con k (subs v)) × (length (subs v) ≡ count)

-- one level of `posts`: the subterms of each subvalue, from left to right, and behind them the value itself
abbrev pub posts_step : Value-F (Value × List Value) → List Value
posts_step (V.Num n) = Num n ∷ []
posts_step (V.Con k ps) =
    flat_map (λ (p : Value × List Value). p.1) ps ++ Con k (map (λ (p : Value × List Value). p.0) ps) ∷ []

-- the subterms of a value in post-order, each occurrence by itself; the last is the value itself
abbrev pub posts : Value → List Value
posts = para-Value (List Value) posts_step
