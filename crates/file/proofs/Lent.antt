-- Commands lent as kinds and numbers are those commands again. Assumes nothing.
use Prim.Native.Nat.{ℕ, ◌+◌, ◌*◌, ◌≤◌}
use mathlib.Core.Path.{◌≡◌, refl, sym, ap, ◌∙◌}
use mathlib.Core.List.{List, [], ◌∷◌, ◌++◌, map, append_assoc, append-nil}
use native.Mathlib.Nat.{add-zero}
use native.Mathlib.Omega.{arith}
use lib.ListN.{length, get_or, take, drop, length-map}
use lib.Seq.{sets, get_or-drop, drop-drop, drop_at, take_at}
use lib.Ieee.{Float, nan}
use Rattle.geo.specs.declared.types.Point3D.{Point3D}
use Rattle.geo.specs.declared.types.Command.{Command}
use Rattle.geo.specs.declared.types.Command.TheVariants.{Move, Line, Arc, Bezier}
use Rattle.geo.specs.Lent.{flat, kind_of, numbers_of, point_at, command_of, command_at, commands_from}
use Rattle.geo.specs.Walk.{list_from}
use Rattle.file.specs.Command.{laid, enc, lent_bytes, lent_lap}
use Rattle.geo.proofs.Wrote.{nine}
use Rattle.geo.proofs.Flat.{flat_length}
use Rattle.geo.proofs.Stores.{sets_front}

-- the j-th of three points
point_in : List Float → ℕ → Point3D
point_in l j = record { x = get_or l (3 * j) nan; y = get_or l (3 * j + 1) nan; z = get_or l (3 * j + 2) nan }

points-there : (ns : List Float) (i j : ℕ) → point_at ns (3 * i + j) ≡ point_in (drop (9 * i) ns) j
unfolding point_at point_in
points-there ns i j = rw (there (3 * (3 * i + j)) (3 * j) (omega arith), there (3 * (3 * i + j) + 1) (3 * j + 1) (omega arith), there (3 * (3 * i + j) + 2) (3 * j + 2) (omega arith))
  where
    there : (m k : ℕ) → m ≡ 9 * i + k → get_or ns m nan ≡ get_or (drop (9 * i) ns) k nan
    there m k e = ap (λ (n : ℕ). get_or ns n nan) e ∙ sym (get_or-drop (9 * i) ns k nan)

made : (c : Command) (q : List Float) → command_of (kind_of c) (point_in (numbers_of c ++ q) 0) (point_in (numbers_of c ++ q) 1) (point_in (numbers_of c ++ q) 2) ≡ c
unfolding command_of kind_of numbers_of point_in
made (Move p) q = refl
made (Line p) q = refl
made (Arc p o n) q = refl
made (Bezier p o n) q = refl

one-back : (c : Command) (ks : List ℕ) (ns : List Float) (i : ℕ) (r : List ℕ) (q : List Float) → drop i ks ≡ kind_of c ∷ r → drop (9 * i) ns ≡ numbers_of c ++ q → command_at ks ns i ≡ c
unfolding command_at
one-back c ks ns i r q e f =
    let k : get_or ks i 0 ≡ kind_of c = ap (λ (n : ℕ). get_or ks n 0) (sym (add-zero i)) ∙ sym (get_or-drop i ks 0 0) ∙ ap (λ (l : List ℕ). get_or l 0 0) e in
    let z : 3 * i ≡ 3 * i + 0 = omega arith in
    let u : point_at ns (3 * i) ≡ point_in (numbers_of c ++ q) 0 = ap (point_at ns) z ∙ points-there ns i 0 ∙ ap (λ (l : List Float). point_in l 0) f in
    let v : point_at ns (3 * i + 1) ≡ point_in (numbers_of c ++ q) 1 = points-there ns i 1 ∙ ap (λ (l : List Float). point_in l 1) f in
    let w : point_at ns (3 * i + 2) ≡ point_in (numbers_of c ++ q) 2 = points-there ns i 2 ∙ ap (λ (l : List Float). point_in l 2) f in
    rw (k, u, v, w) (made c q)

pub back_from : (cs : List Command) (ks : List ℕ) (ns : List Float) (i : ℕ) (r : List ℕ) (q : List Float) → drop i ks ≡ map kind_of cs ++ r → drop (9 * i) ns ≡ flat numbers_of cs ++ q
    → commands_from ks ns (length cs) i ≡ cs
unfolding commands_from flat
back_from [] ks ns i r q e f = refl
back_from (c ∷ cs) ks ns i r q e f =
    let h : drop (9 * i) ns ≡ numbers_of c ++ (flat numbers_of cs ++ q) = f ∙ append_assoc (numbers_of c) (flat numbers_of cs) q in
    let k : drop (i + 1) ks ≡ map kind_of cs ++ r = sym (drop-drop 1 i ks) ∙ ap (drop 1) e in
    let w : 9 * (i + 1) ≡ 9 * i + 9 = omega arith in
    let m : drop (9 * (i + 1)) ns ≡ flat numbers_of cs ++ q = ap (λ (n : ℕ). drop n ns) w ∙ sym (drop-drop 9 (9 * i) ns) ∙ ap (drop 9) h ∙ drop_at (numbers_of c) (flat numbers_of cs ++ q) 9 (nine c) in
    rw (one-back c ks ns i (map kind_of cs ++ r) (flat numbers_of cs ++ q) e h, back_from cs ks ns (i + 1) r q k m)

-- lent as the parts that hold them of two outputs, at whose front they are written
pub back_part : (cs : List Command) (n : ℕ) (ks ks' : List ℕ) (ns ns' : List Float) → n ≡ length cs → n ≤ length ks → 9 * n ≤ length ns
    → ks' ≡ sets ks 0 (map kind_of cs) → ns' ≡ sets ns 0 (flat numbers_of cs) → commands_from (take n ks') (take (9 * n) ns') (length (take n ks')) 0 ≡ cs
back_part cs n ks ks' ns ns' l h k e f =
    let a = length-map cs kind_of in
    let b = flat_length numbers_of 9 nine cs in
    let p : take n ks' ≡ map kind_of cs = ap (take n) (e ∙ sets_front (map kind_of cs) ks (omega arith)) ∙ take_at (map kind_of cs) _ n (omega arith) in
    let q : take (9 * n) ns' ≡ flat numbers_of cs = ap (take (9 * n)) (f ∙ sets_front (flat numbers_of cs) ns (omega arith)) ∙ take_at (flat numbers_of cs) _ (9 * n) (omega arith) in
    rw (p, q, a) (back_from cs (map kind_of cs) (flat numbers_of cs) 0 [] [] (sym (append-nil (map kind_of cs))) (sym (append-nil (flat numbers_of cs))))

-- ---- their bytes are those of the commands
made_bytes : (c : Command) (q : List Float) → laid (kind_of c) (point_in (numbers_of c ++ q) 0) (point_in (numbers_of c ++ q) 1) (point_in (numbers_of c ++ q) 2) ≡ enc c
unfolding laid enc kind_of numbers_of point_in
made_bytes (Move p) q = refl
made_bytes (Line p) q = refl
made_bytes (Arc p o n) q = refl
made_bytes (Bezier p o n) q = refl

one-bytes : (c : Command) (ks : List ℕ) (ns : List Float) (i : ℕ) (r : List ℕ) (q : List Float) → drop i ks ≡ kind_of c ∷ r → drop (9 * i) ns ≡ numbers_of c ++ q → lent_bytes ks ns i ≡ enc c
unfolding lent_bytes
one-bytes c ks ns i r q e f =
    let k : get_or ks i 0 ≡ kind_of c = ap (λ (n : ℕ). get_or ks n 0) (sym (add-zero i)) ∙ sym (get_or-drop i ks 0 0) ∙ ap (λ (l : List ℕ). get_or l 0 0) e in
    let z : 3 * i ≡ 3 * i + 0 = omega arith in
    let u : point_at ns (3 * i) ≡ point_in (numbers_of c ++ q) 0 = ap (point_at ns) z ∙ points-there ns i 0 ∙ ap (λ (l : List Float). point_in l 0) f in
    let v : point_at ns (3 * i + 1) ≡ point_in (numbers_of c ++ q) 1 = points-there ns i 1 ∙ ap (λ (l : List Float). point_in l 1) f in
    let w : point_at ns (3 * i + 2) ≡ point_in (numbers_of c ++ q) 2 = points-there ns i 2 ∙ ap (λ (l : List Float). point_in l 2) f in
    rw (k, u, v, w) (made_bytes c q)

bytes-from : (cs : List Command) (ks : List ℕ) (ns : List Float) (i : ℕ) (r : List ℕ) (q : List Float) → drop i ks ≡ map kind_of cs ++ r → drop (9 * i) ns ≡ flat numbers_of cs ++ q
    → list_from (lent_bytes ks ns) (length cs) i ≡ map enc cs
unfolding list_from flat
bytes-from [] ks ns i r q e f = refl
bytes-from (c ∷ cs) ks ns i r q e f =
    let h : drop (9 * i) ns ≡ numbers_of c ++ (flat numbers_of cs ++ q) = f ∙ append_assoc (numbers_of c) (flat numbers_of cs) q in
    let k : drop (i + 1) ks ≡ map kind_of cs ++ r = sym (drop-drop 1 i ks) ∙ ap (drop 1) e in
    let w : 9 * (i + 1) ≡ 9 * i + 9 = omega arith in
    let m : drop (9 * (i + 1)) ns ≡ flat numbers_of cs ++ q = ap (λ (n : ℕ). drop n ns) w ∙ sym (drop-drop 9 (9 * i) ns) ∙ ap (drop 9) h ∙ drop_at (numbers_of c) (flat numbers_of cs ++ q) 9 (nine c) in
    rw (one-bytes c ks ns i (map kind_of cs ++ r) (flat numbers_of cs ++ q) e h, bytes-from cs ks ns (i + 1) r q k m)

pub lent-commands : (cs : List Command) → lent_lap (map kind_of cs) (flat numbers_of cs) ≡ map enc cs
unfolding lent_lap
lent-commands cs = rw (length-map cs kind_of) (bytes-from cs (map kind_of cs) (flat numbers_of cs) 0 [] [] (sym (append-nil (map kind_of cs))) (sym (append-nil (flat numbers_of cs))))

pub lent_length : (cs : List Command) → length (flat numbers_of cs) ≡ 9 * length (map kind_of cs)
lent_length cs = flat_length numbers_of 9 nine cs ∙ ap (λ (n : ℕ). 9 * n) (sym (length-map cs kind_of))
