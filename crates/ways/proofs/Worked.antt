-- Worked examples, by computing: a test is given by the rows of a table. Assumes nothing.
use mathlib.Core.Path.{◌≡◌, refl}
use mathlib.Core.Bool.{Bool, true, false}
use mathlib.Core.List.{List, [], ◌∷◌}
use lib.ListN.{get_or}
use Rattle.ways.specs.Way.{Test}
use Rattle.ways.specs.Layers.{fewest}

table : List (List Bool) → Test
table rows u v = get_or (get_or rows u []) v false

-- (0,0), (1,1), (2,0) at 0.5: only neighbours pass; the budget is looked at only when a pair is due, so 2 tests finish the first layer
corner : Test
unfolding table
corner = table ((false ∷ true ∷ false ∷ []) ∷ (false ∷ false ∷ true ∷ []) ∷ [])

corner_0 : fewest corner 256 2 0 (1 ∷ 2 ∷ []) ≡ record { ends = 1 ∷ 2 ∷ []; tested = 0; bound = 1 }
unfolding fewest corner
corner_0 = refl

corner_1 : fewest corner 256 2 1 (1 ∷ 2 ∷ []) ≡ record { ends = 1 ∷ 2 ∷ []; tested = 1; bound = 1 }
unfolding fewest corner
corner_1 = refl

corner_2 : fewest corner 256 2 2 (1 ∷ 2 ∷ []) ≡ record { ends = 1 ∷ 2 ∷ []; tested = 2; bound = 2 }
unfolding fewest corner
corner_2 = refl

corner_3 : fewest corner 256 2 3 (1 ∷ 2 ∷ []) ≡ record { ends = 1 ∷ 2 ∷ []; tested = 3; bound = 2 }
unfolding fewest corner
corner_3 = refl

-- (0,1), (3,1), (1,1), (3,0) at 0.75: the recursive cut has 3 Lines, the fewest are 2, and 5 pairs find them
shorter : Test
unfolding table
shorter = table ((false ∷ true ∷ true ∷ false ∷ []) ∷ (false ∷ false ∷ true ∷ false ∷ []) ∷ (false ∷ false ∷ false ∷ true ∷ []) ∷ [])

shorter_4 : fewest shorter 256 3 4 (1 ∷ 2 ∷ 3 ∷ []) ≡ record { ends = 1 ∷ 2 ∷ 3 ∷ []; tested = 4; bound = 2 }
unfolding fewest shorter
shorter_4 = refl

shorter_5 : fewest shorter 256 3 5 (1 ∷ 2 ∷ 3 ∷ []) ≡ record { ends = 2 ∷ 3 ∷ []; tested = 5; bound = 2 }
unfolding fewest shorter
shorter_5 = refl

-- a layer goes in list order: the third layer's points 3, 4, 5 were reached in the order 5, 3, 4, and the way found leads through 4
order : Test
unfolding table
order =
    table
    ((false ∷ true ∷ true ∷ false ∷ false ∷ false ∷ false ∷ [])
    ∷ (false ∷ false ∷ true ∷ false ∷ false ∷ true ∷ false ∷ [])
    ∷ (false ∷ false ∷ false ∷ true ∷ true ∷ false ∷ false ∷ [])
    ∷ (false ∷ false ∷ false ∷ false ∷ true ∷ false ∷ false ∷ [])
    ∷ (false ∷ false ∷ false ∷ false ∷ false ∷ true ∷ true ∷ [])
    ∷ (false ∷ false ∷ false ∷ false ∷ false ∷ false ∷ true ∷ [])
    ∷ [])

order_14 : fewest order 256 6 14 (1 ∷ 2 ∷ 3 ∷ 4 ∷ 5 ∷ 6 ∷ []) ≡ record { ends = 1 ∷ 2 ∷ 3 ∷ 4 ∷ 5 ∷ 6 ∷ []; tested = 14; bound = 3 }
unfolding fewest order
order_14 = refl

order_21 : fewest order 256 6 21 (1 ∷ 2 ∷ 3 ∷ 4 ∷ 5 ∷ 6 ∷ []) ≡ record { ends = 2 ∷ 4 ∷ 6 ∷ []; tested = 15; bound = 3 }
unfolding fewest order
order_21 = refl

-- all pairs pass but that of the ends: the way found replaces the known one also at an equal count
two_ways : Test
unfolding table
two_ways = table ((false ∷ true ∷ true ∷ false ∷ []) ∷ (false ∷ false ∷ true ∷ true ∷ []) ∷ (false ∷ false ∷ false ∷ true ∷ []) ∷ [])

equal-count : fewest two_ways 256 3 9 (2 ∷ 3 ∷ []) ≡ record { ends = 1 ∷ 3 ∷ []; tested = 4; bound = 2 }
unfolding fewest two_ways
equal-count = refl
