-- Eight blocks side by side: how a loop lays their digits column by column, that every column is a code, and how columns are written to rows.
use Rattle.std.specs.Prelude.{◌≡◌, refl, ◌≢◌, Bool, cond, List, [], ◌∷◌, ◌++◌, map, ℕ, zero, suc, ◌+◌, ◌*◌, ◌-◌, ◌<◌, ◌≤◌, length, get_or, take, drop, set, replicate}
use Rattle.std.proofs.Common.{sym, ◌∙◌, ap, ap₂, subst, map-id, append-nil, append_assoc, add-one, arith, lt-ltb, le-ltb, length-append, length-take, length-drop, take-append-drop, take_at, take-take, drop_at, drop-drop, drop-cons, get_or-set_same, get_or-set_other}
use Rattle.std.proofs.lemmas.List.{map-append, length-replicate, length-map, get_or-replicate, replicate-append-replicate, set_at}
use Rattle.std.proofs.Math.Decide.{ℕ_discrete, dec_le}
use Rattle.std.proofs.Math.Seq.{take-nil, append_snoc}
use Rattle.integers.specs.Laws.Loops.{Filled, filled_more, filled-all, range-long}
use Rattle.integers.specs.Vectors.{range}
use Rattle.columns.specs.Columns.{column, Square8}
use Rattle.layers.specs.Digits.{IsCode}
use Rattle.columns.specs.Laws.Columns.{put-square, put-here, put_other}
use Rattle.layers.specs.Laws.Rows.{below_all}
use Rattle.records.specs.Eight.Codes.{AreCodes, block_size}
use Rattle.points.specs.Lanes.{block_at, lane_digits, LayerPut, Gathered}
use Rattle.points.specs.Laws.Points.{digits-part}

-- ---- a loop puts eight digits as a column

-- a column that is written from the first row on: so far the first j entries, and no other column
pub record Putting (t : ℕ) (ds : List ℕ) (o : List (List ℕ)) (j : ℕ) (c : List (List ℕ)) : Type 0 where
  pub square : Square8 c
  pub filled : Filled (λ (x : ℕ). x) 8 ds j (column 0 t c)
  pub others : (u : ℕ) → u ≢ t → column 0 u c ≡ column 0 u o

module _ (t : ℕ) (t< : t < 8) (ds : List ℕ) (long : length ds ≡ 8) (o : List (List ℕ)) where
  -- none yet
  pub putting-none : Square8 o → Putting t ds o 0 o
  putting-none h = record { square = h; filled = record { within = omega arith; long = length-map o _ ∙ h.long; same = refl }; others = λ u ne. refl }

  module _ (j : ℕ) (c : List (List ℕ)) (p : Putting t ds o j c) where
    -- one more
    pub putting-more : (z : ℕ) → z ≡ get_or ds j 0 → j < 8 → Putting t ds o (j + 1) (set c j (set (get_or c j []) t z))
    putting-more z e h = record {
      square = put-square 0 c p.square j t h t< z;
      filled = subst (Filled (λ (x : ℕ). x) 8 ds (j + 1)) (sym (put-here 0 c p.square j t h t< z)) (filled_more (λ (x : ℕ). x) 8 ds long 0 z e h p.filled);
      others = λ u ne. put_other 0 c p.square j t h t< z u ne ∙ p.others u ne;
    }

    -- all
    pub putting-all : 8 ≤ j → LayerPut t ds o c
    putting-all h = record { square = p.square; put = filled-all (λ (x : ℕ). x) 8 ds long h p.filled ∙ map-id ds; others = p.others }

-- ---- a loop lays s 0, s 1 and so on, each of eight entries, side by side over zeros

-- b columns are laid
pub record Laid (s : ℕ → List ℕ) (b : ℕ) (c : List (List ℕ)) : Type 0 where
  pub square : Square8 c
  pub done : (t : ℕ) → t < b → column 0 t c ≡ s t
  pub left : (t : ℕ) → b ≤ t → t < 8 → column 0 t c ≡ replicate 8 0

abbrev blank : List ℕ
blank = replicate 8 0

pub laid_none : (s : ℕ → List ℕ) → Laid s 0 (replicate 8 blank)
laid_none s = record { square = record { long = refl; rows = λ j h. ap length (same j 8 h) }; done = λ t h. absurd (omega arith); left = λ t g h. ap (λ (x : ℕ). replicate 8 x) (none 8 t) }
  where
    same : (j n : ℕ) → j < n → get_or (replicate n blank) j [] ≡ blank
    same j n h = get_or-replicate n j blank [] h

    none : (n t : ℕ) → ◌≡◌ {A = ℕ} (get_or (replicate n 0) t 0) 0
    none zero t = refl
    none (suc n) zero = refl
    none (suc n) (suc t) = none n t

-- one more
pub laid_more : (s : ℕ → List ℕ) (b : ℕ) {ds : List ℕ} {c c' : List (List ℕ)} → ds ≡ s b → Laid s b c → LayerPut b ds c c' → Laid s (b + 1) c'
laid_more s b {ds} {c} {c'} e h p = record {
  square = p.square;
  done = λ t l. elim (ℕ_discrete t b) [
    | yes i ↦ ap (λ (k : ℕ). column 0 k c') i ∙ p.put ∙ e ∙ ap s (sym i)
    | no i ↦ p.others t i ∙ h.done t (omega (arith, i))
  ];
  left = λ t l k. p.others t (λ i. absurd (omega (arith, i))) ∙ h.left t (omega arith) k;
}

-- ---- the columns as codes

-- a part of a part
pub part_of : {A : Type 0} (a b n : ℕ) (l : List A) → a + n ≤ b → take n (drop a (take b l)) ≡ take n (drop a l)
part_of zero b n l h = take-take n b l (omega arith)
part_of {A} (suc a) b n [] h = ap (λ (l : List A). take n (drop (suc a) l)) (take-nil b)
part_of (suc a) zero n (x ∷ l) h = absurd (omega arith)
part_of (suc a) (suc b) n (x ∷ l) h = part_of a b n l (omega arith)

-- the layer i of block b, where it stands
abbrev pub layer_at : ℕ → List ℕ → ℕ → ℕ → List ℕ
layer_at m f b i = take 8 (drop (block_size m * b + (8 * i + 1)) f)

pub block-layer : (m : ℕ) (f : List ℕ) (b i : ℕ) → i < m → take 8 (drop (8 * i) (drop 1 (block_at m f b))) ≡ layer_at m f b i
block-layer m f b i l = let a : ℕ = block_size m * b in let e : a + 1 + 8 * i ≡ a + (8 * i + 1) = omega arith in
    ap (λ (g : List ℕ). take 8 (drop (8 * i) g)) (digits-part m a f)
    ∙ part_of (8 * i) (8 * m) 8 (drop (a + 1) f) (omega arith)
    ∙ ap (take 8) (drop-drop (8 * i) (a + 1) f ∙ ap (λ (j : ℕ). drop j f) e)

module _ (m n : ℕ) (f : List ℕ) (t : ℕ) where
  abbrev digits : List ℕ
  digits = lane_digits m n f t

  -- the column of a block, and one past the last
  pub lane_here : t < n → digits ≡ drop 1 (block_at m f t)
  lane_here h = ap (λ (v : Bool). cond v (drop 1 (block_at m f t)) (replicate (8 * m) 0)) (lt-ltb t n h)

  lane-none : n ≤ t → digits ≡ replicate (8 * m) 0
  lane-none h = ap (λ (v : Bool). cond v (drop 1 (block_at m f t)) (replicate (8 * m) 0)) (le-ltb t n h)

  -- their layers
  module _ (i : ℕ) (l : i < m) where
    layer-here : t < n → take 8 (drop (8 * i) digits) ≡ layer_at m f t i
    layer-here h = ap (λ (g : List ℕ). take 8 (drop (8 * i) g)) (lane_here h) ∙ block-layer m f t i l

    layer-none : n ≤ t → take 8 (drop (8 * i) digits) ≡ replicate 8 0
    layer-none h =
        let r : ℕ = 8 * (m - suc i) in let e : 8 * m ≡ 8 * i + (8 + r) = omega arith in let rest : List ℕ = replicate 8 0 ++ replicate r 0 in
        let parts : replicate (8 * m) 0 ≡ replicate (8 * i) 0 ++ rest
        = ap (λ (j : ℕ). replicate j 0) e ∙ sym (replicate-append-replicate (8 * i) (8 + r) 0) ∙ ap (λ (g : List ℕ). replicate (8 * i) 0 ++ g) (sym (replicate-append-replicate 8 r 0)) in
        ap (λ (g : List ℕ). take 8 (drop (8 * i) g)) (lane-none h ∙ parts)
        ∙ ap (take 8) (drop_at (replicate (8 * i) 0) rest (8 * i) (length-replicate (8 * i) 0))
        ∙ take_at (replicate 8 0) (replicate r 0) 8 refl

  -- each is a code
  pub lane-code : (q : ℕ) → 0 < q → AreCodes q m n f → IsCode 8 q m digits
  lane-code q q> c = elim (dec_le n t) [
    | yes h ↦ let z : List ℕ = replicate (8 * m) 0 in let long : length z ≡ 8 * m = length-replicate (8 * m) 0 in
        subst (IsCode 8 q m) (sym (lane-none h)) (record { long = long; below = below_all q z (λ i l. subst (λ (d : ℕ). d < q) (sym (get_or-replicate (8 * m) i 0 0 (omega (arith, long)))) q>) })
    | no h ↦ let l : t < n = omega arith in subst (IsCode 8 q m) (sym (lane_here l)) (c.each t l)
  ]

-- layer i of n blocks, laid side by side
pub laid-gathered : (m n : ℕ) (f : List ℕ) (i : ℕ) → i < m → {c : List (List ℕ)} → Laid (λ (b : ℕ). layer_at m f b i) n c → Gathered m n i f c
laid-gathered m n f i l {c} h = record {
  square = h.square;
  each = λ t k. elim (dec_le n t) [
    | yes g ↦ h.left t g k ∙ sym (layer-none m n f t i l g)
    | no g ↦ let here : t < n = omega arith in h.done t here ∙ sym (layer-here m n f t i l here)
  ];
}

-- ---- a loop writes entry after entry: those so far are as they should be

pub each_more : {A : Type 0} (P : ℕ → A → Type 0) (r : List A) (j : ℕ) (x d : A) → j < length r → P j x → ((t : ℕ) → t < j → P t (get_or r t d)) → (t : ℕ) → t < j + 1 → P t (get_or (set r j x) t d)
each_more {A} P r j x d h p g t l = elim (ℕ_discrete t j) [
  | yes e ↦ subst (λ (k : ℕ). P k (get_or (set r j x) k d)) (sym e) (subst (P j) (sym (get_or-set_same r j x d h)) p)
  | no e ↦ subst (P t) (sym (get_or-set_other r j t x d e)) (g t (omega (arith, e)))
]

-- ---- a loop writes g 0, g 1 and so on over the rows from i on

range-more : (i n : ℕ) → range i (n + 1) ≡ range i n ++ ((i + n) ∷ [])
range-more i n = ap (range i) (add-one n) ∙ go i n
  where
    go : (i n : ℕ) → range i (suc n) ≡ range i n ++ ((i + n) ∷ [])
    go i zero = let e : i ≡ i + 0 = omega arith in ap (λ (j : ℕ). j ∷ []) e
    go i (suc n) = let e : suc i + n ≡ i + suc n = omega arith in ap (λ (l : List ℕ). i ∷ l) (go (suc i) n ∙ ap (λ (j : ℕ). range (suc i) n ++ (j ∷ [])) e)

pub columns-start : {A : Type 0} (o : List A) (i : ℕ) → o ≡ (take i o ++ []) ++ drop (i + 0) o
columns-start {A} o i = let z : i ≡ i + 0 = omega arith in sym (take-append-drop i o) ∙ ap₂ (λ (w : List A) (j : ℕ). w ++ drop j o) (sym (append-nil (take i o))) z

module _ {A : Type 0} (g : ℕ → A) (o : List A) (i : ℕ) where
  pub columns-more : (b : ℕ) (d : A) → i + b < length o → set ((take i o ++ map g (range 0 b)) ++ drop (i + b) o) (i + b) (g b) ≡ (take i o ++ map g (range 0 (b + 1))) ++ drop (i + (b + 1)) o
  columns-more b d h =
      let w : List A = take i o ++ map g (range 0 b) in let z : 0 + b ≡ b = omega arith in let next : suc (i + b) ≡ i + (b + 1) = omega arith in
      let long : length w ≡ i + b = simp (length-append, length-map, length-take) (omega (arith, range-long 0 b)) in
      ap (λ (r : List A). set (w ++ r) (i + b) (g b)) (drop-cons o (i + b) d h)
      ∙ set_at w _ (drop (suc (i + b)) o) (g b) (i + b) long
      ∙ sym (append_snoc w (g b) (drop (suc (i + b)) o))
      ∙ ap₂ (λ (w : List A) (j : ℕ). w ++ drop j o) (
      append_assoc (take i o) (map g (range 0 b)) (g b ∷ [])
      ∙ ap (λ (r : List A). take i o ++ r) (sym (ap (map g) (range-more 0 b ∙ ap (λ (j : ℕ). range 0 b ++ (j ∷ [])) z) ∙ map-append g (range 0 b) (b ∷ [])))
      ) next

  -- there are as many rows as before
  pub columns-long : (b : ℕ) → i + b ≤ length o → length ((take i o ++ map g (range 0 b)) ++ drop (i + b) o) ≡ length o
  columns-long b h = simp (length-append, length-map, length-take, length-drop) (omega (arith, range-long 0 b))
