mod Convolution
mod FilterFits
mod Rates
mod Terms
mod Types
mod Widths
