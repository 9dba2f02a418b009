-- `lap_rows::lap_rows::put_lap` meets its contract: the rows in the arrays are those of the lap, and there is room for the lines of each. Assumes nothing.
use Prim.Native.Nat.{ℕ, ◌<◌}
use mathlib.Core.Path.{◌≡◌, sym, ap, ◌∙◌, subst}
use mathlib.Core.List.{List}
use native.Mathlib.Omega.{arith}
use lib.ListN.{length}
use lib.Seq.{length-sets}
use Rattle.file.specs.Command.{commands_at}
use Rattle.listing.specs.Placed.{RowsPlaced}
use Rattle.listing.specs.Rows.{ListRow, kinds_of, steps_in, sum_of}
use Rattle.listing.proofs.Columns.{kinds_length, steps_length}
use Rattle.lap_rows.specs.Listing.{lap_rows, lap_text}
use Rattle.lap_text.proofs.Lines.{columns_back, rows_back, text_same}
use Rattle.lap_rows.proofs.Counts.{rows_few, rows-steps, rows_short}
use Rattle.lap_rows.proofs.lap_rows.put_lap.Goals as goal

-- the kinds of the rows are put into an array that stays as long as it was
same-kinds : (rs : List ListRow) (n : ℕ) (ks ks' ss ss' : List ℕ) → RowsPlaced rs n ks ks' ss ss' → length ks' ≡ length ks
same-kinds rs n ks ks' ss ss' w = ap length w.kinds ∙ length-sets ks 0 (kinds_of rs)

pub shared_ref_as_front-put_rows : goal.shared_ref_as_front-put_rows
shared_ref_as_front-put_rows c = let a = c.args in let f = rows_few a.tolerance c.requires.0 a.lap.start (commands_at a.lap.body.bytes.now a.lap.body.at a.lap.body.count) in let n = c.list_commands-n.ensures.rows.count in omega (arith, c.requires.2)

pub shared_ref_as_front-put_rows-2 : goal.shared_ref_as_front-put_rows-2
shared_ref_as_front-put_rows-2 c = let a = c.args in let f = rows_few a.tolerance c.requires.0 a.lap.start (commands_at a.lap.body.bytes.now a.lap.body.at a.lap.body.count) in let n = c.list_commands-n.ensures.rows.count in omega (arith, c.requires.2)

pub put_rows-requires : goal.put_rows-requires
put_rows-requires c = let a = c.args in let p = c.requires in let w = c.list_commands-n.ensures.rows in
    let o = same-kinds _ _ _ _ _ _ w in
    let l = commands_at a.lap.body.bytes.now a.lap.body.at a.lap.body.count in
    let f = rows_few a.tolerance p.0 a.lap.start l in
    let n = w.count in
    let e = rows_back _ _ _ _ _ _ w (omega (arith, f, o, p.2)) (omega (arith, f, p.2)) in
    let k = columns_back _ _ _ _ _ _ w (omega (arith, f, o, p.2)) (omega (arith, f, p.2)) in
    let x = kinds_length (lap_rows a.tolerance a.lap.start l) in
    (p.1, (let q = ap length k.0 in let s = ap length k.1 ∙ steps_length (lap_rows a.tolerance a.lap.start l) in omega (arith, q, s, x)), subst (λ (rs : List ListRow). sum_of (steps_in rs) < 1000) (sym e) (rows_short a.tolerance p.0 a.lap.start l p.2), let q = ap length k.0 in omega (arith, f, x, q, p.3))

pub returns-clause-text : goal.returns-clause-text
unfolding lap_text
returns-clause-text c = let a = c.args in let p = c.requires in let w = c.list_commands-n.ensures.rows in
    let o = same-kinds _ _ _ _ _ _ w in
    let l = commands_at a.lap.body.bytes.now a.lap.body.at a.lap.body.count in
    let f = rows_few a.tolerance p.0 a.lap.start l in
    text_same a.number _ _ _ _ _ _ (rows_back _ _ _ _ _ _ w (omega (arith, f, o, p.2)) (omega (arith, f, p.2))) c.put_rows.ensures.text

pub returns-clause-sum : goal.returns-clause-sum
returns-clause-sum c = let a = c.args in let p = c.requires in let w = c.list_commands-n.ensures.rows in
    let o = same-kinds _ _ _ _ _ _ w in
    let l = commands_at a.lap.body.bytes.now a.lap.body.at a.lap.body.count in
    let f = rows_few a.tolerance p.0 a.lap.start l in
    c.put_rows.ensures.sum ∙ ap (λ (rs : List ListRow). sum_of (steps_in rs)) (rows_back _ _ _ _ _ _ w (omega (arith, f, o, p.2)) (omega (arith, f, p.2))) ∙ rows-steps a.tolerance p.0 a.lap.start l
