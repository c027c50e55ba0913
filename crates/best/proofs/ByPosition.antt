-- The sizing of a checked job by position, and the position of a place.
use mathlib.Core.Path.{◌≡◌, ap, ◌∙◌}
use mathlib.Core.List.{List}
use Prim.Native.Nat.{ℕ, ◌<◌}
use Rattle.lattice.specs.Lists.{at}
use Rattle.lattice.specs.Numbering.{Numbering}
use Rattle.lattice.proofs.Renumbering.{at-arranged}
use Rattle.net.specs.declared.Counts.{Counts}
use Rattle.net.specs.Job.{places_by}
use Rattle.net.specs.Net.{Net, places, net_by}
use Rattle.net.specs.Checked.{Checked, AllowedBy}
use Rattle.net.specs.Order.{position, order, by_position}
use Rattle.net.proofs.Order.{numbering}
use Rattle.net.proofs.Positions.{driving-moved}
use Rattle.net.proofs.Questions.{ordered}
use Rattle.place.specs.ByCounts.{AllowedInOrder}

module _ {c : Counts} {b : List ℕ} (k : Checked c b) where
  abbrev net : Net
  net = net_by c b

  pub nu : Numbering (places net) (order net) (position net)
  nu = numbering net (ordered k).sites (ordered k).rising

  pub allowed-by-position : (x : List ℕ) → AllowedBy c b x → AllowedInOrder c b (by_position net x)
  allowed-by-position x a = (driving-moved net (ordered k)).forth x a

  -- a place has at its position the index that it has
  pub own-index : (x : List ℕ) (p : ℕ) → p < places_by c → at (by_position net x) (position net p) ≡ at x p
  own-index x p h = at-arranged (places_by c) (order net) x (position net p) (nu.found p h) ∙ ap (at x) (nu.back p h)
