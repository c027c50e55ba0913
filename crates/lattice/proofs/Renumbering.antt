-- No word of the theory depends on how places are numbered.
use mathlib.Core.Path.{◌≡◌, ◌∙◌, refl, sym, ap, subst}
use mathlib.Core.Logic.{◌↔◌}
use mathlib.Core.Bool.{Bool}
use mathlib.Core.List.Memᴰ
use mathlib.Core.List.{List, [], ◌∷◌, map, zip_with}
use Prim.Native.Nat.{ℕ, ◌<◌, ◌-◌, suc, min, max}
use native.Mathlib.Omega.{arith}
use lib.ListN.{length, set, length-set}
use lib.Seq.{get_or-set_same, get_or-set_other}
use Rattle.lattice.specs.Side.{Side, below, above}
use Rattle.lattice.specs.Lists.{In, at, extreme_of, product}
use Rattle.lattice.specs.Space.{Space, Allowed, Boxed, in_box, within, Lattice, Closed, Submodular}
use Rattle.lattice.specs.Least.{sizings, envelope, least_delay, leasts, least_envelope, Least}
use Rattle.lattice.specs.Refine.{best, bound, fixed, lower, upper, room, refine, start, Best, Fixed}
use Rattle.lattice.specs.Numbering.{Numbering, arranged, renumbered, renumbered_delay, Moved, Alike}
use Rattle.lattice.proofs.Sides.{order-both}
use Rattle.lattice.proofs.ListLaws.{and_T, T_and, length-tabulate, at-tabulate, ext, length-zip, at-zip, extreme_of-in, extreme_of-order, set-place}
use Rattle.lattice.proofs.Boxes.{in_box-iff, within-lattice}
use Rattle.lattice.proofs.Leasts.{length-envelope, at-envelope, in-sizings, sizings-in, in-leasts}
use Rattle.lattice.proofs.Refining.{best-is, best-only, in-fixed}
use Rattle.lattice.proofs.Totals.{product-order}

-- The way back is a numbering too.
pub numbering-back : {n : ℕ} {order position : ℕ → ℕ} → Numbering n order position → Numbering n position order
numbering-back nu = record { inside = nu.found; found = nu.inside; there = nu.back; back = nu.there }

-- `arranged` has n indices, and at t that of the place `order t`.
pub length-arranged : (n : ℕ) (order : ℕ → ℕ) (x : List ℕ) → length (arranged n order x) ≡ n
unfolding arranged
length-arranged n order x = length-tabulate n _

pub at-arranged : (n : ℕ) (order : ℕ → ℕ) (x : List ℕ) (t : ℕ) → t < n → at (arranged n order x) t ≡ at x (order t)
unfolding arranged
at-arranged n order x t h = at-tabulate n _ t h

module _ {n : ℕ} {order position : ℕ → ℕ} (nu : Numbering n order position) where
  -- There and back.
  pub arranged-back : (x : List ℕ) → length x ≡ n → arranged n position (arranged n order x) ≡ x
  arranged-back x e =
      ext n _ _ (length-arranged n position _) e
      (λ p h. at-arranged n position _ p h ∙ at-arranged n order x (position p) (nu.found p h) ∙ ap (λ q. at x q) (nu.back p h))

  -- One index set.
  pub arranged-set : (x : List ℕ) → length x ≡ n → (t : ℕ) → t < n → (k : ℕ) → arranged n order (set x (order t) k) ≡ set (arranged n order x) t k
  arranged-set x e t h k =
      ext n _ _ (length-arranged n order _) (length-set (arranged n order x) t k ∙ length-arranged n order x)
      (λ u l. at-arranged n order _ u l ∙ set-place (λ q v. at (set x (order t) k) (order q) ≡ v) n (arranged n order x) t k (length-arranged n order x)
      (get_or-set_same x (order t) k 0 (rw e (nu.inside t h)))
      (λ q i c. get_or-set_other x (order t) (order q) k 0 (λ f. c (sym (nu.there q i) ∙ ap position f ∙ nu.there t h)) ∙ sym (at-arranged n order x q i)) u l)

  -- Two sizings taken together.
  pub arranged-zip : (f : ℕ → ℕ → ℕ) (x y : List ℕ) → length x ≡ n → length y ≡ n
      → arranged n order (zip_with f x y) ≡ zip_with f (arranged n order x) (arranged n order y)
  arranged-zip f x y ex ey =
      let lx = length-arranged n order x in
      let ly = length-arranged n order y in
      ext n _ _ (length-arranged n order _) (length-zip f n _ _ lx ly)
      (λ t h. at-arranged n order _ t h ∙ at-zip f n x y ex ey (order t) (nu.inside t h)
      ∙ sym (at-zip f n _ _ lx ly t h ∙ cc (at-arranged n order x t h, at-arranged n order y t h)))

-- Lists of the same numbers have the same extreme.
extreme_of-same : (s : Side) (d : ℕ) (l m : List ℕ) → ((a : ℕ) → In a l → In a m) → ((a : ℕ) → In a m → In a l) → extreme_of s d l ≡ extreme_of s d m
extreme_of-same s d [] [] f g = refl
extreme_of-same s d [] (b ∷ m) f g = absurd (Memᴰ.not-nil (g b (Memᴰ.head refl)))
extreme_of-same s d (a ∷ l) [] f g = absurd (Memᴰ.not-nil (f a (Memᴰ.head refl)))
extreme_of-same s d (a ∷ l) (b ∷ m) f g =
    order-both s _ _ (extreme_of-order s d (g _ (extreme_of-in s d (Memᴰ.head refl)))) (extreme_of-order s d (f _ (extreme_of-in s d (Memᴰ.head refl))))

-- Two lists of sizings, each with a measure, where each sizing of one has its like in the other.
extreme-moved : (s : Side) (d : ℕ) (f g : List ℕ → ℕ) (xs ys : List (List ℕ)) → ((x : List ℕ) → In x xs → (y : List ℕ) × In y ys × (g y ≡ f x))
    → ((y : List ℕ) → In y ys → (x : List ℕ) × In x xs × (f x ≡ g y)) → extreme_of s d (map f xs) ≡ extreme_of s d (map g ys)
extreme-moved s d f g xs ys to of =
    extreme_of-same s d _ _ (λ v i. one f g xs ys to v i) (λ v i. one g f ys xs of v i)
  where
    one : (f g : List ℕ → ℕ) (xs ys : List (List ℕ)) → ((x : List ℕ) → In x xs → (y : List ℕ) × In y ys × (g y ≡ f x)) → (v : ℕ) → In v (map f xs) → In v (map g ys)
    one f g xs ys to v i =
        let k = Memᴰ.of_map f xs i in
        let l = to k.0 k.1 in
        Memᴰ.cast (sym (l.2 ∙ k.2)) (Memᴰ.map g l.1)

-- Where the sizings of one list are those of the other by position, so are their envelopes.
envelope-moved : {n : ℕ} {order position : ℕ → ℕ} → Numbering n order position → (s : Side) (i j : ℕ) → i ≡ n → j ≡ n → (xs ys : List (List ℕ))
    → ((x : List ℕ) → In x xs → In (arranged n order x) ys) → ((y : List ℕ) → In y ys → In (arranged n position y) xs)
    → envelope s j ys ≡ arranged n order (envelope s i xs)
envelope-moved {n} {order} {position} nu s i j e f xs ys forth back =
    rw (e, f) (ext n _ _ (length-envelope s n ys) (length-arranged n order _)
    (λ t h. at-envelope s n ys t h
    ∙ extreme-moved s 0 (λ y. at y t) (λ x. at x (order t)) ys xs
    (λ y i. (arranged n position y, back y i, at-arranged n position y (order t) (nu.inside t h) ∙ ap (λ u. at y u) (nu.there t h)))
    (λ x i. (arranged n order x, forth x i, at-arranged n order x t h))
    ∙ sym (at-arranged n order _ t h ∙ at-envelope s n xs (order t) (nu.inside t h))))

module _ {n : ℕ} {order position : ℕ → ℕ} {a b : Space} {D E : List ℕ → ℕ} (m : Moved n order position a D b E) where
  long : (x : List ℕ) → Allowed a x → length x ≡ n
  long x c = (m.lattice.boxed x c).long ∙ m.places

  long' : (y : List ℕ) → Allowed b y → length y ≡ n
  long' y c = (m.lattice'.boxed y c).long ∙ m.places'

  -- The same, seen from the positions.
  pub moved_back : Moved n position order b E a D
  moved_back =
      record {
        numbering = numbering-back m.numbering;
        lattice = m.lattice';
        lattice' = m.lattice;
        places = m.places';
        places' = m.places;
        forth = m.back;
        back = m.forth;
        delay = λ y c. sym (m.delay _ (m.back y c)) ∙ ap E (arranged-back (numbering-back m.numbering) y (long' y c));
      }

  -- The delay by position is submodular.
  pub moved-submodular : Submodular a D → Submodular b E
  moved-submodular sub =
      record {
        trades = λ x y c d. omega (
          arith,
          by x c,
          by y d,
          by _ (m.lattice'.meets x y c d),
          by _ (m.lattice'.joins x y c d),
          zip min x y c d,
          zip max x y c d,
          sub.trades _ _ (m.back x c) (m.back y d),
        );
      }
    where
      by : (y : List ℕ) → Allowed b y → D (arranged n position y) ≡ E y
      by = moved_back.delay

      zip : (f : ℕ → ℕ → ℕ) (x y : List ℕ) → Allowed b x → Allowed b y → D (arranged n position (zip_with f x y)) ≡ D (zip_with f (arranged n position x) (arranged n position y))
      zip f x y c d = ap D (arranged-zip (numbering-back m.numbering) f x y (long' x c) (long' y d))

  -- Each word, from places to positions.
  sizings-moved : (x : List ℕ) → In x (sizings a) → In (arranged n order x) (sizings b)
  sizings-moved x i = sizings-in m.lattice' _ (m.forth x (in-sizings a i).1)

  least-moved : (x : List ℕ) → Least a D x → Least b E (arranged n order x)
  least-moved x l =
      record {
        allowed = m.forth x l.allowed;
        least = λ y c. rw (m.delay x l.allowed, ← (moved_back.delay y c)) (l.least _ (m.back y c));
      }

  leasts-moved : (x : List ℕ) → In x (leasts a D) → In (arranged n order x) (leasts b E)
  leasts-moved x i = (in-leasts m.lattice' E _).1 (least-moved x ((in-leasts m.lattice D x).0 i))

  best-moved : (s : Side) (x : List ℕ) → Allowed a x → (t : ℕ) → t < n → best s b E (arranged n order x) t ≡ best s a D x (order t)
  best-moved s x c t h =
      best-only m.lattice' E s (arranged n order x) (m.forth x c) t (rw m.places' h) k
      record {
        allowed = rw (same k) at (m.forth _ w.allowed);
        wins = λ j d. rw (by k w.allowed, by j (back j d)) (w.wins j (back j d));
        first = λ j d e. w.first j (back j d) (rw (by k w.allowed, by j (back j d)) at e);
      }
    where
      k : ℕ
      k = best s a D x (order t)

      w : Best s a D x (order t) k
      w = best-is m.lattice D s x c (order t) (rw m.places (m.numbering.inside t h))

      same : (j : ℕ) → arranged n order (set x (order t) j) ≡ set (arranged n order x) t j
      same = arranged-set m.numbering x (long x c) t h

      back : (j : ℕ) → Allowed b (set (arranged n order x) t j) → Allowed a (set x (order t) j)
      back j d = rw (← (same j), arranged-back m.numbering (set x (order t) j) (length-set x (order t) j ∙ long x c)) at (m.back _ d)

      by : (j : ℕ) → Allowed a (set x (order t) j) → E (set (arranged n order x) t j) ≡ D (set x (order t) j)
      by j d = ap E (sym (same j)) ∙ m.delay _ d

  fixed_moved : (s : Side) (x : List ℕ) → Fixed s a D x → Fixed s b E (arranged n order x)
  fixed_moved s x f =
      record {
        allowed = m.forth x f.allowed;
        stays = λ t h. let l : t < n = rw m.places' at h in
            best-moved s x f.allowed t l ∙ f.stays (order t) (rw m.places (m.numbering.inside t l)) ∙ sym (at-arranged n order x t l);
      }

  fixeds-moved : (s : Side) (x : List ℕ) → In x (fixed s a D) → In (arranged n order x) (fixed s b E)
  fixeds-moved s x i = (in-fixed m.lattice' E s _).1 (fixed_moved s x ((in-fixed m.lattice D s x).0 i))

module _ {n : ℕ} {order position : ℕ → ℕ} {a b : Space} {D E : List ℕ → ℕ} (m : Moved n order position a D b E) where
  -- Both ways.
  both : (P Q : List ℕ → Type 0) → ((x : List ℕ) → P x → Q (arranged n order x)) → ((y : List ℕ) → Q y → P (arranged n position y))
      → (x : List ℕ) → length x ≡ n → P x ↔ Q (arranged n order x)
  both P Q to of x e = (to x, λ q. subst P (arranged-back m.numbering x e) (of _ q))

  ends : (s : Side) (xs ys : List (List ℕ)) → ((x : List ℕ) → In x xs → In (arranged n order x) ys) → ((y : List ℕ) → In y ys → In (arranged n position y) xs)
      → envelope s b.places ys ≡ arranged n order (envelope s a.places xs)
  ends s = envelope-moved m.numbering s a.places b.places m.places m.places'

  bound-moved : (s : Side) → bound s b E ≡ arranged n order (bound s a D)
  unfolding bound
  bound-moved s = ends s (fixed s a D) (fixed s b E) (fixeds-moved m s) (fixeds-moved (moved_back m) s)

  room_moved : room b E ≡ room a D
  unfolding room
  room_moved =
      ap (λ k. product k (span b E)) m.places'
      ∙ product-order m.numbering (span a D) (span b E)
      (λ t h. rw (bound-moved above, bound-moved below, at-arranged n order (upper a D) t h, at-arranged n order (lower a D) t h))
      ∙ ap (λ k. product k (span a D)) (sym m.places)
    where
      span : Space → (List ℕ → ℕ) → ℕ → ℕ
      span sp F p = suc (at (upper sp F) p - at (lower sp F) p)

  -- No word of the theory depends on how the places are numbered.
  pub moved-alike : Alike n order a D b E
  unfolding least_delay least_envelope start refine
  moved-alike =
      record {
        allowed = both (Allowed a) (Allowed b) m.forth m.back;
        least_delay = extreme-moved below 0 E D (sizings b) (sizings a)
            (λ y i. (arranged n position y, sizings-moved m' y i, m'.delay y (in-sizings b i).1))
            (λ x i. (arranged n order x, sizings-moved m x i, m.delay x (in-sizings a i).1));
        least = both (Least a D) (Least b E) (least-moved m) (least-moved m');
        least_envelope = λ s. ends s (leasts a D) (leasts b E) (leasts-moved m) (leasts-moved m');
        best = best-moved m;
        refine = λ s x c t h. rw (best-moved m s x c t h) (sym (arranged-set m.numbering x (long m x c) t h _));
        fixed = λ s. both (Fixed s a D) (Fixed s b E) (fixed_moved m s) (fixed_moved m' s);
        bound = bound-moved;
        room = room_moved;
        start = λ s. ends s (sizings a) (sizings b) (sizings-moved m) (sizings-moved m');
      }
    where
      m' : Moved n position order b E a D
      m' = moved_back m

-- The limits go with their places.
boxed-moved : {n : ℕ} {order position : ℕ → ℕ} → Numbering n order position → (lo hi lo' hi' : ℕ → ℕ) → ((t : ℕ) → t < n → lo' t ≡ lo (order t))
    → ((t : ℕ) → t < n → hi' t ≡ hi (order t)) → (x : List ℕ) → Boxed n lo hi x → Boxed n lo' hi' (arranged n order x)
boxed-moved {n} {order} nu lo hi lo' hi' low high x c =
    record {
      long = length-arranged n order x;
      low = λ t h. rw (low t h, at-arranged n order x t h) (c.low (order t) (nu.inside t h));
      high = λ t h. rw (high t h, at-arranged n order x t h) (c.high (order t) (nu.inside t h));
    }

module _ {sp : Space} {order position : ℕ → ℕ} (la : Lattice sp) (nu : Numbering sp.places order position) where
  -- The renumbered space is a lattice.
  pub renumbered-lattice : Lattice (renumbered order position sp)
  unfolding renumbered
  renumbered-lattice =
      within-lattice sp.places _ _ _
      record {
        meets = λ x y e f c d. rw (arranged-zip (numbering-back nu) min x y e f) (la.meets _ _ c d);
        joins = λ x y e f c d. rw (arranged-zip (numbering-back nu) max x y e f) (la.joins _ _ c d);
      }

  -- It is the space by position.
  pub renumbered-moved : (D : List ℕ → ℕ) → Moved sp.places order position sp D (renumbered order position sp) (renumbered_delay position sp D)
  unfolding renumbered within
  renumbered-moved D =
      record {
        numbering = nu;
        lattice = la;
        lattice' = renumbered-lattice;
        places = refl;
        places' = refl;
        forth = λ x c. T_and (in_box _ _ _ (arranged sp.places order x)) _
            ((in_box-iff _ _ _ _).1 (boxed-moved nu sp.lo sp.hi _ _ (λ t h. refl) (λ t h. refl) x (la.boxed x c))) (rw (again x c) c);
        back = λ y c. (and_T (in_box _ _ _ y) _ c).1;
        delay = λ x c. ap D (again x c);
      }
    where
      again : (x : List ℕ) → Allowed sp x → arranged sp.places position (arranged sp.places order x) ≡ x
      again x c = arranged-back nu x (la.boxed x c).long

  -- No word of the theory tells the two apart.
  pub renumbered-alike : (D : List ℕ → ℕ) → Alike sp.places order sp D (renumbered order position sp) (renumbered_delay position sp D)
  renumbered-alike D = moved-alike (renumbered-moved D)

-- A box and a test by place, and the same by position.
within-forth : {n : ℕ} {order position : ℕ → ℕ} → Numbering n order position → (lo hi lo' hi' : ℕ → ℕ) (f f' : List ℕ → Bool)
    → ((t : ℕ) → t < n → lo' t ≡ lo (order t)) → ((t : ℕ) → t < n → hi' t ≡ hi (order t)) → ((x : List ℕ) → length x ≡ n → f' (arranged n order x) ≡ f x)
    → (x : List ℕ) → Allowed (within n lo hi f) x → Allowed (within n lo' hi' f') (arranged n order x)
unfolding within
within-forth {n} {order} nu lo hi lo' hi' f f' low high test x c =
    let t = and_T (in_box n lo hi x) (f x) c in
    let b = (in_box-iff n lo hi x).0 t.0 in
    T_and (in_box n lo' hi' (arranged n order x)) _ ((in_box-iff n lo' hi' _).1 (boxed-moved nu lo hi lo' hi' low high x b)) (rw (test x b.long) t.1)

-- Such a space by place and another by position, whose limits and test agree, and two delays that agree.
pub within-moved : {n : ℕ} {order position : ℕ → ℕ} → Numbering n order position → (lo hi lo' hi' : ℕ → ℕ) (f f' : List ℕ → Bool) (D E : List ℕ → ℕ) → Closed n f → Closed n f'
    → ((t : ℕ) → t < n → lo' t ≡ lo (order t)) → ((t : ℕ) → t < n → hi' t ≡ hi (order t)) → ((x : List ℕ) → length x ≡ n → f' (arranged n order x) ≡ f x)
    → ((x : List ℕ) → Allowed (within n lo hi f) x → E (arranged n order x) ≡ D x) → Moved n order position (within n lo hi f) D (within n lo' hi' f') E
unfolding within
within-moved {n} {order} {position} nu lo hi lo' hi' f f' D E closed closed' low high test delay =
    record {
      numbering = nu;
      lattice = within-lattice n lo hi f closed;
      lattice' = within-lattice n lo' hi' f' closed';
      places = refl;
      places' = refl;
      forth = within-forth nu lo hi lo' hi' f f' low high test;
      back = within-forth (numbering-back nu) lo' hi' lo hi f' f
          (λ p h. sym (low _ (nu.found p h) ∙ ap lo (nu.back p h))) (λ p h. sym (high _ (nu.found p h) ∙ ap hi (nu.back p h)))
          (λ y e. sym (test _ (length-arranged n position y)) ∙ ap f' (arranged-back (numbering-back nu) y e));
      delay = delay;
    }
