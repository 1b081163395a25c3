use Rattle.std.proofs.Common.{◌<◌, subst, sym}
use Rattle.place_chains.proofs.Search.{bucket_below, bucket_told}
use Rattle.place_chains.proofs.links.bucket_of.Goals as goal

pub returns-clause-is : goal.returns-clause-is
returns-clause-is c = bucket_told c.args.hash c.args.count c.ranges.hash.fits c.requires

pub returns-clause-below : goal.returns-clause-below
returns-clause-below c = subst (λ n. n < c.args.count) (sym (bucket_told c.args.hash c.args.count c.ranges.hash.fits c.requires)) (bucket_below c.args.hash c.args.count c.requires)
