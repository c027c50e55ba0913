-- `elmore::whole` meets its contract: the whole tree hangs at the source.
use Rattle.elmore.proofs.Filling.{source-tally}
use Rattle.elmore.proofs.whole.Goals as goal

pub returns : goal.returns
returns c =
    let charged = c.repeat_all-charge.ensures in
    record {
      source = source-tally c.args.net.now.sized.ready c.requires _ (rw charged.kept at c.branches.ensures);
      charge = rw charged.kept at charged.charge;
    }
