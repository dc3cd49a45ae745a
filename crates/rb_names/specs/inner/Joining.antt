-- Parts that were numbered, in front of what is found of the rest, as in a loop that has gone through some of a list.
-- A part is numbered where its names are replaced by numbers; its fault is the first name for which that fails. A
-- binder is what binds a variable; it has a number in its function.
use Rattle.std.specs.Prelude.{List, ◌++◌, Ok}
use Rattle.rb_names.specs.declared.items.Items.{Items}
use Rattle.rb_names.specs.Numbering.{Resolved, Numbered, and_then, numbered_as}

-- the parts xs with those of the rest behind them; the rest's fault, if it has one
abbrev pub parts_before : {A : Type 0} → List A → Resolved (List A) → Resolved (List A)
parts_before xs rest = and_then rest (λ ys. Ok (xs ++ ys))

-- the parts xs with those of the rest behind them, and the number of the next binder behind all of them; the
-- rest's fault, if it has one
abbrev pub behind_in_turn : {A : Type 0} → List A → Resolved (Numbered (List A)) → Resolved (Numbered (List A))
behind_in_turn xs rest = and_then rest (λ ys. numbered_as (xs ++ ys.what) ys.next)

-- the items xs with those of the rest behind them, kind by kind; the rest's fault, if it has one
abbrev pub behind_items : Items → Resolved Items → Resolved Items
behind_items xs rest = and_then rest (λ ys.
    Ok (record {
      types = xs.types ++ ys.types;
      layouts = xs.layouts ++ ys.layouts;
      functions = xs.functions ++ ys.functions;
    }))
