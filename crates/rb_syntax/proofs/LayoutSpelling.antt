-- Spelling of layouts' items and provenances, form by form.
use Rattle.std.proofs.Common.{◌≡◌, ℕ, List, map, ap}
use Rattle.rb_core.specs.declared.layout_decl.PartDecl.{PartDecl}
use Rattle.rb_core.specs.declared.layout_decl.PartKind as K
use Rattle.rb_core.specs.declared.layout_decl.LayItem.{LayItem}
use Rattle.rb_core.specs.declared.layout_decl.LayItem as I
use Rattle.rb_core.specs.declared.layout_decl.LayItem.TheViews as V
use Rattle.rb_core.specs.declared.layout_decl.LayItem.TheOpen as item
use Rattle.rb_core.specs.declared.layout_decl.LayItem.TheFolds.{fold-roll-LayItem, fold-roll-PartKind, fold_out-PartDecl}
use Rattle.rb_syntax.specs.declared.tree.NameTree.{NameTree}
use Rattle.rb_syntax.specs.declared.tree.PatTree.{PatTree}
use Rattle.rb_syntax.specs.declared.tree.PatTree as P
use Rattle.rb_syntax.specs.declared.tree.PatTree.TheOpen as pat
use Rattle.rb_syntax.specs.declared.tree.PatTree.TheFolds.{fold-roll-PatTree}
use Rattle.rb_syntax.specs.Written.{Written}
use Rattle.rb_syntax.specs.Spelling.{Deep, lay_item_step, kind_step, part_step, lay_item_written, kind_written, part_written, prov_step, below_written}

pub item-Word : (bits : ℕ) (parts : List PartDecl) (l : ℕ) (rest : List Written)
    → lay_item_written (I.Word bits parts) l rest ≡ lay_item_step (item.LayItem::Word bits (map part_written parts)) l rest
unfolding I.roll-LayItem denote.Hole.Carrier.roll
item-Word bits parts l rest = ap (λ (w : Deep). w l rest) (fold-roll-LayItem Deep Deep Deep lay_item_step kind_step part_step (item.LayItem::Word bits parts))

pub item-Inline : (path : List ℕ) (l : ℕ) (rest : List Written) → lay_item_written (I.Inline path) l rest ≡ lay_item_step (item.Inline path) l rest
unfolding I.roll-LayItem denote.Hole.Carrier.roll
item-Inline path l rest = ap (λ (w : Deep). w l rest) (fold-roll-LayItem Deep Deep Deep lay_item_step kind_step part_step (item.Inline path))

pub part-is : (p : PartDecl) (l : ℕ) (rest : List Written) → part_written p l rest ≡ part_step (record { o = p.o; l = p.l; kind = kind_written p.kind }) l rest
part-is p l rest = ap (λ (w : Deep). w l rest) (fold_out-PartDecl Deep Deep Deep lay_item_step kind_step part_step p)

pub kind-Const : (c l : ℕ) (rest : List Written) → kind_written (K.Const c) l rest ≡ kind_step (item.Const c) l rest
unfolding V.roll-PartKind denote.Hole.Carrier.roll
kind-Const c l rest = ap (λ (w : Deep). w l rest) (fold-roll-PartKind Deep Deep Deep lay_item_step kind_step part_step (item.Const c))

pub kind-Whole : (path : List ℕ) (l : ℕ) (rest : List Written) → kind_written (K.Whole path) l rest ≡ kind_step (item.Whole path) l rest
unfolding V.roll-PartKind denote.Hole.Carrier.roll
kind-Whole path l rest = ap (λ (w : Deep). w l rest) (fold-roll-PartKind Deep Deep Deep lay_item_step kind_step part_step (item.Whole path))

pub kind-Slice : (path : List ℕ) (first bits l : ℕ) (rest : List Written) → kind_written (K.Slice path first bits) l rest ≡ kind_step (item.Slice path first bits) l rest
unfolding V.roll-PartKind denote.Hole.Carrier.roll
kind-Slice path first bits l rest = ap (λ (w : Deep). w l rest) (fold-roll-PartKind Deep Deep Deep lay_item_step kind_step part_step (item.Slice path first bits))

pub kind-Word : (path : List ℕ) (j l : ℕ) (rest : List Written) → kind_written (K.Word path j) l rest ≡ kind_step (item.PartKind::Word path j) l rest
unfolding V.roll-PartKind denote.Hole.Carrier.roll
kind-Word path j l rest = ap (λ (w : Deep). w l rest) (fold-roll-PartKind Deep Deep Deep lay_item_step kind_step part_step (item.PartKind::Word path j))

pub kind-Pointer : (align : ℕ) (items : List LayItem) (l : ℕ) (rest : List Written)
    → kind_written (K.Pointer align items) l rest ≡ kind_step (item.Pointer align (map lay_item_written items)) l rest
unfolding V.roll-PartKind denote.Hole.Carrier.roll
kind-Pointer align items l rest = ap (λ (w : Deep). w l rest) (fold-roll-PartKind Deep Deep Deep lay_item_step kind_step part_step (item.Pointer align items))

pub below-Wild : (at l : ℕ) (rest : List Written) → below_written (P.Wild at) l rest ≡ prov_step (pat.Wild at) l rest
unfolding P.roll-PatTree denote.Hole.Carrier.roll
below-Wild at l rest = ap (λ (w : Deep). w l rest) (fold-roll-PatTree Deep prov_step (pat.Wild at))

pub below-Var : (at : ℕ) (name : NameTree) (l : ℕ) (rest : List Written) → below_written (P.Var at name) l rest ≡ prov_step (pat.Var at name) l rest
unfolding P.roll-PatTree denote.Hole.Carrier.roll
below-Var at name l rest = ap (λ (w : Deep). w l rest) (fold-roll-PatTree Deep prov_step (pat.Var at name))

pub below-Num : (at n l : ℕ) (rest : List Written) → below_written (P.Num at n) l rest ≡ prov_step (pat.Num at n) l rest
unfolding P.roll-PatTree denote.Hole.Carrier.roll
below-Num at n l rest = ap (λ (w : Deep). w l rest) (fold-roll-PatTree Deep prov_step (pat.Num at n))

pub below-Con : (at : ℕ) (name : NameTree) (ps : List PatTree) (l : ℕ) (rest : List Written)
    → below_written (P.Con at name ps) l rest ≡ prov_step (pat.Con at name (map below_written ps)) l rest
unfolding P.roll-PatTree denote.Hole.Carrier.roll
below-Con at name ps l rest = ap (λ (w : Deep). w l rest) (fold-roll-PatTree Deep prov_step (pat.Con at name ps))

pub ruleset item_rules = (item-Word, item-Inline, part-is, kind-Const, kind-Whole, kind-Slice, kind-Word, kind-Pointer, below-Wild, below-Var, below-Num, below-Con)
