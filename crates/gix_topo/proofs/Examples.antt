-- Date order and topological order, one of them a refused list; the walk set; the boundary of hidden tips.
pub mod TopologicalOrders
-- The order by time, newest first and oldest first.
pub mod TimeOrder
