mod BareNetlists
mod GatheredSlots
mod TestOperations
