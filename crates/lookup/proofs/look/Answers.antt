-- `look`: what the slot of node n towards p shows.
use Rattle.lookup.proofs.WayLaws.{sees_0, sees_1, sees_2, sees_3, fits_2}
use Rattle.lookup.proofs.look.Goals as goal

pub overflow_add-result : goal.overflow_add-result
overflow_add-result c =
    let s = c.requires.well_formed in
    record {
      fits = fits_2 s _ (c.requires.at_node s)
          (c.reach-r.ensures.view s) _ c.reach-r.ensures.block_value _
          c.in-Sibling.is
          c.ranges.p.fits;
    }

pub returns-in-Empty : goal.returns-in-Empty
returns-in-Empty c =
    λ s. sees_0 s _ (c.requires.at_node s) (c.reach-r.ensures.view s)
    _ c.reach-r.ensures.block_value c.in-Empty.is

pub returns-in-Held : goal.returns-in-Held
returns-in-Held c =
    λ s. sees_1 s _ (c.requires.at_node s)
    (c.reach-r.ensures.view s) _ c.reach-r.ensures.block_value c.in-Held.is

pub returns-in-Sibling : goal.returns-in-Sibling
returns-in-Sibling c =
    λ s. sees_2 s _ (c.requires.at_node s)
    (c.reach-r.ensures.view s) _ c.reach-r.ensures.block_value _
    c.in-Sibling.is

pub returns-in-Child : goal.returns-in-Child
returns-in-Child c =
    λ s. sees_3 s _ (c.requires.at_node s)
    (c.reach-r.ensures.view s) _ c.reach-r.ensures.block_value _
    c.in-Child.is
