mod Fewer
mod Items
mod Orders
