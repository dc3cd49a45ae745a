-- What code answers, against what a reader gives. A reader takes tokens and gives one result. Code takes the tokens
-- with their places in the file, `placed`, and its postcondition `may` says which answers it may give to them. Code
-- can also want memory, which a reader never does.
use Rattle.std.specs.Prelude.{◌≡◌, List, Bool, Option, Some, None, Result, Ok, Err}
use denote.Ref.{Bor}
use Rattle.rb_syntax.specs.declared.token.Token.{Token}
use Rattle.rb_syntax.specs.declared.token.Placed.{Placed}
use Rattle.rb_syntax.specs.Tokens.{tokens}
use Rattle.rb_read.specs.declared.item.LayoutRest.{LayoutRest}
use Rattle.rb_read.specs.declared.item.LayoutRest.TheVariants as layout_rest
use Rattle.rb_read.specs.declared.leaf.PathEnd.{PathEnd}
use Rattle.rb_read.specs.declared.leaf.PathEnd.TheVariants as path_end
use Rattle.rb_read.specs.declared.stop.Stop as stops
use Rattle.rb_read.specs.declared.stop.Stop.TheVariants as stop
use Rattle.rb_read.specs.inner.Combining.{Fault, Reader, at_front, stuck, deep}
use Rattle.rb_read.specs.inner.Reading as reading

-- why the code stops is the fault that a reader gives, or it is want of memory, which says nothing of the tokens
abbrev pub Fails : {R : Type 0} → stops.Stop → Result R Fault → Type 0
Fails (stop.Stuck left) r = r ≡ Err (stuck left)
Fails (stop.Deep left) r = r ≡ Err (deep left)
Fails stop.Memory r = Unit {0}

-- the code has the result of a reader: a value that `seen` shows as the reader gives it, or the same fault; or it is
-- want of memory, which says nothing of the tokens
abbrev pub Gives : {X R : Type 0} → (X → R) → Result X stops.Stop → Result R Fault → Type 0
Gives seen (Ok x) r = r ≡ Ok (seen x)
Gives seen (Err e) r = Fails e r

-- what code answers: what it read, an A, and the tokens behind it, or why reading stops
abbrev pub ReadAnswer : Type 0 → Type 0
ReadAnswer A = Result (A × Bor (List Placed)) stops.Stop

-- each answer that code with the postcondition `may` can give to tokens is what the reader gives there, or want of
-- memory; the places of the tokens do not matter
abbrev pub Reads : {A : Type 0} → Reader A → (Bor (List Placed) → ReadAnswer A → Type 0) → Type 0
Reads {A} reader may = (placed : Bor (List Placed)) (result : ReadAnswer A) → may placed result
    → Gives (λ x. (x.0, tokens x.1.now)) result (reader (tokens placed.now))

-- each answer that code with the postcondition `may` can give to tokens is whether there is a first token, and it
-- passes the test; the places of the tokens do not matter
abbrev pub Tests : (Token → Bool) → (Bor (List Placed) → Bool → Type 0) → Type 0
Tests test may = (placed : Bor (List Placed)) (result : Bool) → may placed result
    → result ≡ at_front test (tokens placed.now)

-- what stands behind a path in a part, or nothing, as the code holds it, in the form that its reader gives
abbrev pub seen_end : Option PathEnd → Option reading.PathEnd
seen_end None = None
seen_end (Some (path_end.Sliced first bits)) = Some (reading.sliced first bits)
seen_end (Some (path_end.Numbered j)) = Some (reading.numbered j)

-- a layout behind its type's name, as the code holds it, in the form that its reader gives
abbrev pub seen_rest : LayoutRest → reading.LayoutRest
seen_rest (layout_rest.LaidOut shape tree) = reading.laid_out shape tree
seen_rest (layout_rest.Derived a) = reading.derived a
