-- What proves the laws of the rings. A law is a member of the trait, and its proof is cited from the sources, so these lemmas stand here
-- and not in proofs/. Nothing here is to be believed: all of it is proved from the definitions beside.
pub mod Refused
pub mod Total
pub mod Rules
pub mod Duals
pub mod Remainders
pub mod Divided
