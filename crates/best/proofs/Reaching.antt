-- What refining a place of a sizing reaches, where what surrounds the place is known.
use mathlib.Core.Path.{◌≡◌, sym, ap, ◌∙◌}
use mathlib.Core.List.{List}
use Prim.Native.Nat.{ℕ, suc, ◌+◌, ◌^◌, ◌≤◌, ◌<◌}
use native.Mathlib.Omega.{arith}
use lib.ListN.{set}
use Rattle.lattice.specs.Side.{Side, below, above}
use Rattle.lattice.specs.Lists.{at}
use Rattle.lattice.specs.Space.{within}
use Rattle.lattice.specs.Refine.{best, best_below}
use Rattle.lattice.proofs.Refining.{best-is}
use Rattle.lattice.proofs.Renumbering.{arranged-set, moved-alike}
use Rattle.net.specs.declared.Counts.{Counts}
use Rattle.net.specs.Net.{Net, places, net_by}
use Rattle.net.specs.Delay.{delay}
use Rattle.net.specs.Sizings.{allowed}
use Rattle.net.specs.Job.{places_by}
use Rattle.net.specs.Checked.{Checked, AllowedBy}
use Rattle.net.specs.Driving.{Driving, allowed_by, cost, delay_by}
use Rattle.net.specs.Order.{position, order, by_position, driving, placed_by, driving_by}
use Rattle.net.proofs.Positions.{delay-by-position, driving-moved}
use Rattle.net.proofs.Questions.{ordered, allowed-long}
use Rattle.net.proofs.InOrder.{allowed-by, placed, in_limits, driving-lattice}
use Rattle.place.specs.Held.{UpstreamTo}
use Rattle.place.specs.ByCounts.{AllowedInOrder}
use Rattle.quantity.specs.declared.Delay.{Delay}
use Rattle.refine.specs.declared.Ends.{Ends}
use Rattle.refine.specs.Settled.{Settled, EndsAt}
use Rattle.place.proofs.Steps.{cost-same}
use Rattle.refine.proofs.Settling.{settled-by-place, figures-small, settled-ends, settled-reaches}
use Rattle.best.specs.declared.EndsAndDelay.{EndsAndDelay}
use Rattle.best.specs.Reached.{ReachedAt, ReachedBy}
use Rattle.best.specs.Around.{UpstreamOf, DrivenAt}
use Rattle.best.proofs.ByPosition.{nu, allowed-by-position, own-index}
use Rattle.best.proofs.Path.{some-upstream}

-- What is reached at the position of a place is what is reached at the place: best indices and delays do not depend on how places are numbered.
reached-by-place : {c : Counts} {b : List ℕ} (k : Checked c b) (x : List ℕ) → AllowedBy c b x → (p : ℕ) (r : EndsAndDelay) → p < places_by c
    → ReachedAt (allowed_by (driving_by c b)) (delay_by (driving_by c b)) (by_position (net_by c b) x) (position (net_by c b) p) r → ReachedBy c b x p r
reached-by-place {c} {b} k x a p r h s =
    record {
      smallest = s.smallest ∙ same below;
      largest = s.largest ∙ same above;
      reached = s.reached ∙ ap (λ j. delay_by (driving net) (set (by_position net x) t j)) (same below) ∙ moved (best below (allowed net) (delay net) x p);
    }
  where
    net : Net
    net = net_by c b

    t : ℕ
    t = position net p

    few : t < places net
    few = (nu k).found p h

    here : order net t ≡ p
    here = (nu k).back p h

    same : (z : Side) → best z (allowed_by (driving net)) (delay_by (driving net)) (by_position net x) t ≡ best z (allowed net) (delay net) x p
    same z = (moved-alike (driving-moved net (ordered k))).best z x a t few ∙ ap (best z (allowed net) (delay net) x) here

    moved : (j : ℕ) → delay_by (driving net) (set (by_position net x) t j) ≡ delay net (set x p j)
    moved j =
        ap (delay_by (driving net)) (sym (arranged-set (nu k) x (allowed-long net x a) t few j))
        ∙ sym (delay-by-position net (ordered k) (set x (order net t) j))
        ∙ ap (λ q. delay net (set x q j)) here

-- What refining place p of an allowed sizing x comes to, where its weight, what is upstream of it and what it drives are known, and what settling it finds:
-- the delay with the smallest end put there is that of x, with what x's own index costs taken out and what the end costs put in.
module _ {c : Counts} {b : List ℕ} (k : Checked c b) (x : List ℕ) (allows : AllowedBy c b x) (p : ℕ) (few : p < places_by c) (w u d : ℕ)
    (weighs : w ≡ (placed_by c b).weight p) (upstream : UpstreamOf c b x p u) (drives : DrivenAt c b x p d) where
  abbrev driven : Driving
  driven = driving_by c b

  abbrev y : List ℕ
  y = by_position (net_by c b) x

  abbrev t : ℕ
  t = position (net_by c b) p

  a : AllowedInOrder c b y
  a = allowed-by-position k x allows

  inside : t < places_by c
  inside = (nu k).found p few

  here : p ≡ order (net_by c b) t
  here = sym ((nu k).back p few)

  table : (v : List ℕ) × UpstreamTo driven y y (suc t) v
  table = some-upstream driven (placed k) y (suc t) inside

  before-is : u ≡ at table.0 t
  before-is = upstream table.0 table.1

  weight_is : w ≡ driven.weight t
  weight_is = weighs ∙ ap (placed_by c b).weight here

  -- what settling the place asks
  pub around-small : (w ≤ 32640) × (u ≤ 496128000000) × (d ≤ 13700000)
  around-small = rw before-is (figures-small driven (placed k) (in_limits k) table.0 y a t w d inside weight_is table.1 drives)

  -- and its own index
  pub index-small : at x p ≤ (net_by c b).highest p
  index-small = rw (own-index k x p few, ← here) at (((allowed-by driven y).0 a).high t inside)

  module _ (r : Ends) (settled : Settled (placed_by c b) w u p d r) (lent own : ℕ) (f : lent ≡ delay (net_by c b) x)
      (g : own ≡ cost (placed_by c b) w u p d (at x p)) where
    settles : Settled driven w (at table.0 t) t d r
    settles = rw before-is at (settled-by-place c b w u t p d r here settled)

    ends : EndsAt driven y t r
    ends = settled-ends driven (placed k) (in_limits k) table.0 y a t w d inside weight_is table.1 drives r settles

    abbrev put : List ℕ
    put = set y t r.lowest

    put_is : put ≡ set y t (best_below (allowed_by driven) (delay_by driven) y t)
    put_is = ap (λ j. set y t j) (ends.ends below)

    lent_is : lent ≡ delay_by driven y
    lent_is = f ∙ delay-by-position (net_by c b) (ordered k) x

    own_is : own ≡ cost driven w (at table.0 t) t d (at y t)
    own_is = rw (own-index k x p few, ← before-is) (g ∙ cost-same c b w u t d (at x p) p here)

    traded : delay_by driven put + own ≡ lent + r.cost.0
    traded = omega (arith, lent_is, own_is, settled-reaches driven (placed k) (in_limits k) table.0 y a t w d inside weight_is table.1 drives r settles)

    put-fits : delay_by driven put < 2 ^ 63
    unfolding within
    put-fits = (in_limits k).fits put (rw put_is (best-is (driving-lattice driven) (delay_by driven) below y a t inside).allowed)

    -- what `quantity::exchange` asks
    pub exchange-asks : (lent < 2 ^ 63) × (r.cost.0 < 2 ^ 63) × (own ≤ lent + r.cost.0) × (lent + r.cost.0 < own + 2 ^ 63)
    exchange-asks = (omega (arith, lent_is, (in_limits k).fits y a), settled.fits, omega (arith, traded), omega (arith, traded, put-fits))

    pub reached : (v : Delay) → v.0 + own ≡ lent + r.cost.0 → ReachedBy c b x p record { lowest = r.lowest; highest = r.highest; delay = v }
    reached v h =
        let z : v.0 ≡ delay_by driven put = omega (arith, traded) in
        reached-by-place k x allows p _ few
        record { smallest = ends.ends below; largest = ends.ends above; reached = z ∙ ap (delay_by driven) put_is }
