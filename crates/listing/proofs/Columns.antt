-- The two columns of rows: their length, and one list behind another. Assumes nothing.
use mathlib.Core.Path.{◌≡◌}
use mathlib.Core.List.{List, ◌++◌, map-append}
use lib.ListN.{length, length-map}
use Rattle.listing.specs.Rows.{ListRow, kinds_of, steps_in}

pub kinds_append : (xs ys : List ListRow) → kinds_of (xs ++ ys) ≡ kinds_of xs ++ kinds_of ys
unfolding kinds_of
kinds_append xs ys = map-append (λ (r : ListRow). r.kind) xs ys

pub steps_append : (xs ys : List ListRow) → steps_in (xs ++ ys) ≡ steps_in xs ++ steps_in ys
unfolding steps_in
steps_append xs ys = map-append (λ (r : ListRow). r.steps) xs ys

pub kinds_length : (xs : List ListRow) → length (kinds_of xs) ≡ length xs
unfolding kinds_of
kinds_length xs = length-map xs (λ (r : ListRow). r.kind)

pub steps_length : (xs : List ListRow) → length (steps_in xs) ≡ length xs
unfolding steps_in
steps_length xs = length-map xs (λ (r : ListRow). r.steps)
